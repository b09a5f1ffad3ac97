use Rattle.std.proofs.Common.{◌≡◌, List, Result, Ok, Err, map, refl, string_bytes, subst, true}
use Rattle.std.specs.Prelude.{IfErr, IfOk}
use Rattle.clap.specs.Words.{App, HasMatchesOf, Text, found_of, is_simple, kind_of, matches_of, rows_of, takes}
use Rattle.clap.specs.declared.error.kind.ErrorKind.TheVariants.{OutOfMemory}
use Rattle.clap.specs.declared.parser.matches.ArgMatches.{ArgMatches}
use Rattle.pcef_capture_script.specs.CommandLine.{command_line}
use Rattle.pcef_capture_script.proofs.options.parse.Goals as goal

-- of a simple command line the matches are those of the words
rows_there : {E : Type 0} (r : Result ArgMatches E) (app line : App) (words : List Text) → app ≡ line → is_simple line ≡ true
    → IfOk r (HasMatchesOf app words) → IfOk r (λ matches. rows_of (found_of matches) ≡ matches_of line words)
rows_there (Err e) app line words same simple has = tt
rows_there (Ok m) app line words same simple has = subst (λ a. is_simple a ≡ true → (rows_of (found_of m) ≡ matches_of a words)) same (λ s. (has s).0) simple

is_simple_line : is_simple command_line ≡ true
is_simple_line = refl

pub returns-clause-rows : goal.returns-clause-rows
returns-clause-rows c =
    rows_there c.try_get_matches_from.result _ command_line (map string_bytes c.args.words.now) c.in_ok-command.ensures is_simple_line c.try_get_matches_from.ensures.matches

pub returns-clause-takes : goal.returns-clause-takes
returns-clause-takes c =
    subst (λ app. IfErr c.try_get_matches_from.result (λ error. takes app (map string_bytes c.args.words.now) ≡ true → kind_of error ≡ OutOfMemory))
    c.in_ok-command.ensures c.try_get_matches_from.ensures.passes
