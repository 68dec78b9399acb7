-- Chapter: the code and the name of each refusal, as listings print them.
-- Its equations are made by docs/make-rules.py from docs/rules.tsv.
use Rattle.std.specs.Prelude.{List, [], ℕ, codes}
use Rattle.dw_cprint.specs.declared.fault.PrintFault.{PrintFault}
use Rattle.dw_cprint.specs.declared.fault.PrintFault.TheVariants.{Memory, NotPrintable, BadName, Foreign, Unspeakable}
use Rattle.dw_cprint.specs.declared.fault.PrintFault.TheVariants.{TooDeep, TooLong}

-- the code of a refusal
abbrev pub code_text : PrintFault → List ℕ
code_text NotPrintable = codes "P1"
code_text BadName = codes "P2"
code_text Foreign = codes "P3"
code_text Unspeakable = codes "P4"
code_text TooDeep = codes "P5"
code_text TooLong = codes "P6"
code_text Memory = []

-- the long name of a refusal
abbrev pub name_text : PrintFault → List ℕ
name_text NotPrintable = codes "NotPrintable"
name_text BadName = codes "BadName"
name_text Foreign = codes "Foreign"
name_text Unspeakable = codes "Unspeakable"
name_text TooDeep = codes "TooDeep"
name_text TooLong = codes "TooLong"
name_text Memory = codes "Memory"
