use Rattle.std.proofs.Common.{append_assoc}
use Rattle.dw_cprint.proofs.listing.put_refused.Goals as goal

pub returns : goal.returns
returns c =
    rw (
      c.in_ok-extend_from_slice-4.ensures.items,
      c.in_ok-extend_from_slice-3.ensures.items,
      c.as_bytes-2.ensures.value,
      c.name.ensures,
      c.in_ok-push-2.ensures.items,
      c.in_ok-extend_from_slice-2.ensures.items,
      c.as_bytes.ensures.value,
      c.code.ensures,
      c.in_ok-push.ensures.items,
      c.in_ok-put_hex.ensures.ok,
      c.in_ok-extend_from_slice.ensures.items,
    ) (simp append_assoc)
