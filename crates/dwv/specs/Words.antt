-- Chapter: the words of the command line.
use Rattle.std.specs.Prelude.{◌≡◌, ℕ, ◌≤◌, Bool, true, false, List, [], ◌∷◌, ◌++◌, codes, length, drop, Option}
use Rattle.std.specs.Prelude.{None, Some}
use Rattle.std.specs.Str.Parse.{IsNumeral, digits_value}
use Rattle.clap.specs.Simple.{Shape, new_shape}
use Rattle.clap.specs.Words.{App, Row, Rule, Text, fault_of, first_of, new_rule, one_of, subcommand_of}
use Rattle.clap.specs.declared.builder.action.ArgAction.TheVariants.{Set, SetTrue}
use Rattle.dw_report.specs.declared.request.Request.{Request}
use Rattle.dw_report.specs.declared.request.Request.TheVariants.{Check, Show, Types, Size}

-- a word is an offset: `0x` and 1 to 8 hexadecimal digits of either case
pub record IsOffsetWord (word : List ℕ) : Type 0 where
  pub front : word ≡ codes "0x" ++ drop 2 word
  pub digits : IsNumeral 16 (drop 2 word)
  pub few : length (drop 2 word) ≤ 8

-- its number
abbrev pub offset_in : List ℕ → ℕ
offset_in word = digits_value 16 (drop 2 word)

-- a word that must be given, as the name of a file
abbrev pub required_word : Text → Rule
required_word id = record (new_rule id) { required = true; action = Some Set }

-- the option `--json`
abbrev pub json_option : Rule
json_option = record (new_rule (codes "json")) { long = Some (codes "json"); action = Some SetTrue }

-- a command and its words
abbrev pub command : Text → List Rule → Shape
command name rules = record (new_shape name) { rules = rules }

-- the forms of the words, as clap knows them: a command, the name of a file, and for `size` an offset after it
unfoldable pub command_line : App
command_line = record {
  top = record (new_shape (codes "dwv")) { no_binary_name = true; is_leaf = false };
  subs = command (codes "check") (json_option ∷ required_word (codes "FILE") ∷ [])
      ∷ command (codes "show") (required_word (codes "FILE") ∷ [])
      ∷ command (codes "types") (required_word (codes "FILE") ∷ [])
      ∷ command (codes "size") (required_word (codes "FILE") ∷ required_word (codes "OFFSET") ∷ []) ∷ [];
}

-- a flag whose value is `true`, or `false`, or that is not there
pub record IsFlag (value : Option Text) (flag : Bool) : Type 0 where
  pub absent : value ≡ None → flag ≡ false
  pub set : value ≡ Some (codes "true") → flag ≡ true
  pub unset : value ≡ Some (codes "false") → flag ≡ false

-- the request that a command with its values is
abbrev pub IsRequest : (name : Text) → List Row → Request → Type 0
IsRequest name rows (Check json) = (name ≡ codes "check") × IsFlag (one_of (codes "json") rows) json
IsRequest name rows Show = name ≡ codes "show"
IsRequest name rows Types = name ≡ codes "types"
IsRequest name rows (Size offset) = (name ≡ codes "size") × (word : Text) × (first_of (codes "OFFSET") rows ≡ Some word)
    × IsOffsetWord word × (offset ≡ offset_in word)

-- the words are a command with its values, by the rules of clap
pub record HaveCommand (words : List Text) (name : Text) (rows : List Row) : Type 0 where
  pub taken : fault_of command_line words ≡ []
  pub command : subcommand_of command_line words ≡ Some (name, rows)

-- the words are a request for a file
pub record AreRequest (words : List Text) (request : Request) (file : Text) : Type 0 where
  pub name : Text
  pub rows : List Row
  pub have : HaveCommand words name rows
  pub is_request : IsRequest name rows request
  pub is_file : first_of (codes "FILE") rows ≡ Some file

-- a command is `size`, and its last word no offset
pub record IsBadOffset (name : Text) (rows : List Row) : Type 0 where
  pub size : name ≡ codes "size"
  pub word : Text
  pub given : first_of (codes "OFFSET") rows ≡ Some word
  pub malformed : IsOffsetWord word → ⊥

-- the words are a request of `size`, but for their offset
pub record HaveBadOffset (words : List Text) : Type 0 where
  pub name : Text
  pub rows : List Row
  pub have : HaveCommand words name rows
  pub offset : IsBadOffset name rows
