use Rattle.std.proofs.Common.{[], inr, subst, sym}
use Rattle.std.proofs.KnownBytes.{Appends-nil}
use Rattle.pcef_capture_script.specs.Progress.{Reached}
use Rattle.pcef_capture_script.proofs.writing.write_behind.Goals as goal

pub returns-in-Ok : goal.returns-in-Ok
returns-in-Ok g c = λ before input consumes reached.
    c.write_rest.ensures before input consumes (subst (Reached input [] c.args.opened.stream) (sym c.in-Ok.ensures) reached)

pub returns : goal.returns
returns g c = λ before input consumes reached. (input, consumes, inr (Appends-nil _))
