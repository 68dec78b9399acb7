-- Chapter: the words of the command line.
use Rattle.std.specs.Prelude.{◌≡◌, Bool, true, false, List, [], ◌∷◌, codes, Option, None, Some, unwrap_or}
use Rattle.clap.specs.Simple.{Shape, new_shape}
use Rattle.clap.specs.Words.{App, Row, Rule, Text, all_of, fault_of, first_of, new_rule, one_of, subcommand_of}
use Rattle.clap.specs.declared.builder.action.ArgAction.TheVariants.{Append, Set, SetTrue}
use Rattle.dwv_addr.specs.declared.request.Request.{Request}
use Rattle.dwv_addr.specs.declared.request.Request.TheVariants.{Check, Find}

-- a word that must be given, as the name of a file
abbrev pub required_word : Text → Rule
required_word id = record (new_rule id) { required = true; action = Some Set }

-- words that may be given
abbrev pub more_words : Text → Rule
more_words id = record (new_rule id) { action = Some Append }

-- the option `--json`
abbrev pub json_option : Rule
json_option = record (new_rule (codes "json")) { long = Some (codes "json"); action = Some SetTrue }

-- a command and its words
abbrev pub command : Text → List Rule → Shape
command name rules = record (new_shape name) { rules = rules }

-- the forms of the words, as clap knows them: a command and the name of a file, and for `find` addresses after it
unfoldable pub command_line : App
command_line = record {
  top = record (new_shape (codes "dwv-addr")) { no_binary_name = true; is_leaf = false };
  subs = command (codes "check") (json_option ∷ required_word (codes "FILE") ∷ [])
      ∷ command (codes "find") (json_option ∷ required_word (codes "FILE") ∷ more_words (codes "ADDRESS") ∷ []) ∷ [];
}

-- a flag whose value is `true`, or `false`, or that is not there
pub record IsFlag (value : Option Text) (flag : Bool) : Type 0 where
  pub absent : value ≡ None → flag ≡ false
  pub set : value ≡ Some (codes "true") → flag ≡ true
  pub unset : value ≡ Some (codes "false") → flag ≡ false

-- the request that a command with its values is
abbrev pub IsRequest : (name : Text) → List Row → Request → Type 0
IsRequest name rows (Check json) = (name ≡ codes "check") × IsFlag (one_of (codes "json") rows) json
IsRequest name rows (Find json) = (name ≡ codes "find") × IsFlag (one_of (codes "json") rows) json

-- the words are a command with its values, by the rules of clap
pub record HaveCommand (words : List Text) (name : Text) (rows : List Row) : Type 0 where
  pub taken : fault_of command_line words ≡ []
  pub command : subcommand_of command_line words ≡ Some (name, rows)

-- the words in the place of addresses
abbrev pub asked_in : List Row → List Text
asked_in rows = unwrap_or (all_of (codes "ADDRESS") rows) []

-- the words are a request for a file, and in the place of addresses are these
pub record AreRequest (words : List Text) (request : Request) (file : Text) (asked : List Text) : Type 0 where
  pub name : Text
  pub rows : List Row
  pub have : HaveCommand words name rows
  pub is_request : IsRequest name rows request
  pub is_file : first_of (codes "FILE") rows ≡ Some file
  pub are_asked : asked ≡ asked_in rows
