-- What clap's matches say of the words.
use Rattle.std.proofs.Common.{◌≡◌, Bool, true, false, List, [], Option, None, Some, option_map, is_some, refl, sym, ap, ap₂, ◌∙◌, codes, subst, inl, inr}
use Rattle.std.specs.Prelude.{◌||◌, Box, Err, IsErrOf, unwrap_or}
use Rattle.std.specs.Box.{box_value}
use Rattle.clap.specs.Simple.{HasMatchesOf, app_of, is_simple, subcommand_rows, subcommand_rows_of}
use Rattle.clap.specs.Words.{App, HasKind, IsAmong, Row, Text, fault_of, first_of, first_value, found_of, has_subcommand, is_simple_and_free, kind_of, matched_of, one_of, one_text, raw_values, rows_of, subcommand_name_of, subcommand_of}
use Rattle.clap.proofs.OnLiterals.{clap_on_literals}
use Rattle.clap.proofs.WalkLemmas.{first_value-rows, one_text-rows, raw_values-rows}
use Rattle.clap.specs.declared.builder.command.Command.{Command}
use Rattle.clap.specs.declared.error.Error.{Error}
use Rattle.clap.specs.declared.error.kind.ErrorKind.TheVariants as kind
use Rattle.clap.specs.declared.parser.matches.ArgMatches.{ArgMatches}
use Rattle.clap.specs.declared.parser.matches.ArgMatches.TheViews.{out-ArgMatches, out-SubCommand}
use Rattle.clap.specs.declared.parser.matches.SubCommand.{SubCommand}
use Rattle.dwv_addr.specs.declared.request.Request.{Request}
use Rattle.dwv_addr.specs.Words.{AreRequest, HaveCommand, IsFlag, IsRequest, asked_in, command_line}

some_is : {X : Type 0} {x y : X} → Some x ≡ Some y → x ≡ y
some_is e = cc

-- an error that is known
pub error_is : {T E : Type 0} {x y : E} → IsErrOf {T = T} {E = E} (Err x) y → x ≡ y
error_is is = cc

-- and as that of another result
pub same_error : {S T E : Type 0} {x y : E} → IsErrOf {T = S} {E = E} (Err x) y → IsErrOf {T = T} {E = E} (Err x) y
same_error is = ap Err (error_is is)

-- a command with no global argument and one more that is none
pub stays_local : (new old global : Bool) → new ≡ (old || global) → old ≡ false → global ≡ false → new ≡ false
stays_local new old global is old_is global_is = is ∙ ap₂ (λ (x y : Bool). x || y) old_is global_is

-- the matches of the program's forms are known
forms_are_simple : is_simple command_line ≡ true
unfolding clap_on_literals command_line
forms_are_simple = refl

forms_are_free : is_simple_and_free command_line ≡ true
unfolding clap_on_literals command_line
forms_are_free = refl

matched : (forms : Command) (ws : List Text) (m : ArgMatches) → app_of forms ≡ command_line
    → HasMatchesOf (app_of forms) ws m → subcommand_rows_of m ≡ subcommand_of command_line ws
matched forms ws m is matches =
    (matches (ap is_simple is ∙ forms_are_simple)).1 ∙ ap (λ (a : App). subcommand_of a ws) is

joined : {Z : Type 0} (o : Option (Box SubCommand Z)) (name : Text) (rows : List Row)
    → Some name ≡ option_map (λ b. (out-SubCommand (box_value b)).name.now) o
    → Some rows ≡ option_map (λ (p : Text × List Row). p.1) (subcommand_rows o) → subcommand_rows o ≡ Some (name, rows)
joined None name rows named has = absurd cc
joined (Some b) name rows named has =
    ap₂ (λ (n : Text) (rs : List Row). Some (n, rs)) (sym (some_is named)) (sym (some_is has))

-- the command that a parse has found
pub found_command : (forms : Command) (ws : List Text) (m : ArgMatches) (name : Text) (rows : List Row)
    → app_of forms ≡ command_line → (is_simple_and_free (app_of forms) ≡ true → fault_of (app_of forms) ws ≡ [])
    → HasMatchesOf (app_of forms) ws m → Some name ≡ subcommand_name_of m
    → Some rows ≡ option_map (λ (p : Text × List Row). p.1) (subcommand_rows (out-ArgMatches m).subcommand)
    → HaveCommand ws name rows
found_command forms ws m name rows is taken matches named has = record {
  taken = ap (λ (a : App). fault_of a ws) (sym is) ∙ taken (ap is_simple_and_free is ∙ forms_are_free);
  command = sym (matched forms ws m is matches) ∙ joined (out-ArgMatches m).subcommand name rows named has;
}

-- it has found none
pub no_command : (forms : Command) (ws : List Text) (m : ArgMatches) → app_of forms ≡ command_line
    → HasMatchesOf (app_of forms) ws m → false ≡ has_subcommand m
    → (request : Request) (file : Text) (asked : List Text) → AreRequest ws request file asked → ⊥
no_command forms ws m is matches none request file asked are =
    none_there (out-ArgMatches m).subcommand none (matched forms ws m is matches ∙ are.have.command)
  where
    none_there : {Z : Type 0} (o : Option (Box SubCommand Z)) → false ≡ is_some o
        → subcommand_rows o ≡ Some (are.name, are.rows) → ⊥
    none_there None none there = absurd cc
    none_there (Some b) none there = absurd cc

-- it has failed
pub not_taken : (forms : Command) (ws : List Text) (e : Error) → app_of forms ≡ command_line
    → (is_simple_and_free (app_of forms) ≡ true → HasKind (fault_of (app_of forms) ws) e)
    → (kind_of e ≡ kind.OutOfMemory → ⊥)
    → (request : Request) (file : Text) (asked : List Text) → AreRequest ws request file asked → ⊥
not_taken forms ws e is kinds other request file asked are = go (kinds (ap is_simple_and_free is ∙ forms_are_free))
  where
    go : HasKind (fault_of (app_of forms) ws) e → ⊥
    go (inl memory) = other memory
    go (inr among) = subst (IsAmong (kind_of e)) (ap (λ (a : App). fault_of a ws) is ∙ are.have.taken) among

-- words are one command at most
pub one_command : (ws : List Text) (name : Text) (rows : List Row) → HaveCommand ws name rows → (request : Request)
    (file : Text) (asked : List Text) → AreRequest ws request file asked
    → IsRequest name rows request × (first_of (codes "FILE") rows ≡ Some file)
one_command ws name rows have request file asked are =
    let same : ◌≡◌ {A = Text × List Row} (are.name, are.rows) (name, rows) =
    some_is (sym are.have.command ∙ have.command) in (
      subst (λ (p : Text × List Row). IsRequest p.0 p.1 request) same are.is_request,
      subst (λ (p : Text × List Row). first_of (codes "FILE") p.1 ≡ Some file) same are.is_file,
    )

-- the command names no file
pub no_file : (ws : List Text) (name : Text) (m : ArgMatches) → HaveCommand ws name (rows_of (found_of m))
    → None ≡ first_value (found_of m) (codes "FILE")
    → (request : Request) (file : Text) (asked : List Text) → AreRequest ws request file asked → ⊥
no_file ws name m have none request file asked are =
    let there = (one_command ws name (rows_of (found_of m)) have request file asked are).1 in
    let not_there : None ≡ first_of (codes "FILE") (rows_of (found_of m)) = none
    ∙ first_value-rows (found_of m) (codes "FILE") in
    absurd cc

-- all is found
pub are_request : (ws : List Text) (name : Text) (m : ArgMatches) (request : Request) (file text : Text)
    → HaveCommand ws name (rows_of (found_of m)) → Some file ≡ first_value (found_of m) (codes "FILE")
    → IsRequest name (rows_of (found_of m)) request → text ≡ file
    → AreRequest ws request text (asked_in (rows_of (found_of m)))
are_request ws name m request file text have named is same = record {
  name = name;
  rows = rows_of (found_of m);
  have = have;
  is_request = is;
  is_file = sym (named ∙ first_value-rows (found_of m) (codes "FILE")) ∙ ap Some (sym same);
  are_asked = refl;
}

-- what is read of a flag
pub flag_read : (m : ArgMatches) (flag : Bool) → (one_text (found_of m) (codes "json") ≡ None → flag ≡ false)
    → (one_text (found_of m) (codes "json") ≡ Some (codes "true") → flag ≡ true)
    → (one_text (found_of m) (codes "json") ≡ Some (codes "false") → flag ≡ false)
    → IsFlag (one_of (codes "json") (rows_of (found_of m))) flag
flag_read m flag absent set unset = record {
  absent = λ is. absent (one_text-rows (found_of m) (codes "json") ∙ is);
  set = λ is. set (one_text-rows (found_of m) (codes "json") ∙ is);
  unset = λ is. unset (one_text-rows (found_of m) (codes "json") ∙ is);
}

-- the words in the place of addresses, if there are any
pub asked_some : (m : ArgMatches) (texts : List Text)
    → Some texts ≡ option_map raw_values (matched_of (found_of m) (codes "ADDRESS"))
    → texts ≡ asked_in (rows_of (found_of m))
asked_some m texts is =
    ap (λ (o : Option (List Text)). unwrap_or o []) (is ∙ raw_values-rows (found_of m) (codes "ADDRESS"))

-- there are none
pub asked_none : (m : ArgMatches) → None ≡ option_map raw_values (matched_of (found_of m) (codes "ADDRESS"))
    → [] ≡ asked_in (rows_of (found_of m))
asked_none m is = ap (λ (o : Option (List Text)). unwrap_or o []) (is ∙ raw_values-rows (found_of m) (codes "ADDRESS"))
