-- Chapter: what a request is for.
use Rattle.std.specs.Prelude.{Bool}
use Rattle.dwv_addr.specs.declared.request.Request.{Request}
use Rattle.dwv_addr.specs.declared.request.Request.TheVariants.{Check, Find}

-- whether objects in JSON are written
abbrev pub writes_json : Request → Bool
writes_json (Check json) = json
writes_json (Find json) = json
