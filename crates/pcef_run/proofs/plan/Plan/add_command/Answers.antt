use Rattle.std.proofs.Common.{rules, ◌≡◌, ◌∙◌, ◌==◌, [], false, length, refl, sym, true}
use Rattle.std.proofs.lemmas.Bool.{eqb-true}
use Rattle.std.proofs.lemmas.List.{nil_from_length}
use Rattle.pcef_run.proofs.Splits.{filled_command, first_command}
use Rattle.pcef_run.proofs.plan.Plan.add_command.Goals as goal

pub returns-in_ok-push : goal.returns-in_ok-push
returns-in_ok-push c = λ asked is.
    let arrivals = c.args.self.now.arrivals.items in
    let none : (length arrivals == 0) ≡ true = search rules in
    let empty : arrivals ≡ [] = nil_from_length arrivals (eqb-true (length arrivals) 0 none) in
    first_command asked c.args.self.now _ c.args.command empty c.in_ok-push.ensures.items refl refl is

pub returns-in_ok-push-2 : goal.returns-in_ok-push-2
returns-in_ok-push-2 c = λ asked is.
    let filled : (length c.args.self.now.arrivals.items == 0) ≡ false = search rules in
    filled_command asked c.args.self.now _ c.args.command filled refl refl c.in_ok-push-2.ensures.items is
