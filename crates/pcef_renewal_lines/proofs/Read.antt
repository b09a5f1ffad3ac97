-- Whether a text reads as a command, from what was read of it.
use Rattle.std.proofs.Common.{◌≡◌, ◌≢◌, ◌⊎◌, ◌↔◌, inl, inr, ℕ, Bool, List, Result, Ok, Err, IsTrue, false, subst, sym, true}
use Rattle.pcef_line.specs.declared.fault.LineFault.{LineFault}
use Rattle.pcef_line.specs.declared.fault.LineFault.TheVariants.{NoMemory}
use Rattle.pcef_line.specs.declared.line.Line.{Line}
use Rattle.pcef_line.specs.LineOf.{LineOf, of_command}
use Rattle.pcef_line.proofs.LineLaws.{due_once}
use Rattle.pcef_model.specs.declared.command.Command.{Command}
use Rattle.pcef_renewal_lines.specs.Commands.{SaysCommand, has_line}

the_line : (l m : Line) → (d : Result Line LineFault) → d ≡ Ok l → d ≡ Ok m → l ≡ m
the_line l m d is also = cc

no_line : (m : Line) (e : LineFault) (d : Result Line LineFault) → d ≡ Err e → d ≡ Ok m → ⊥
no_line m e d is also = absurd cc

-- a line was read
pub said : (text : List ℕ) (l : Line) (c : Command) (d : Result Line LineFault) → LineOf text d → d ≡ Ok l → (has_line c ≡ true) × (l ≡ of_command c) → SaysCommand text c
unfolding SaysCommand
said text l c d due is same = (same.0, rw (sym same.1) (rw (sym is) due))

pub says_it : (text : List ℕ) (l : Line) (c : Command) (d : Result Line LineFault) → LineOf text d → d ≡ Ok l → SaysCommand text c → (has_line c ≡ true) × (l ≡ of_command c)
unfolding SaysCommand
says_it text l c d due is says = (says.0, the_line l (of_command c) d is (due_once text d (Ok (of_command c)) due says.1))

-- a fault was found
pub says_nothing : (text : List ℕ) (e : LineFault) (c : Command) (d : Result Line LineFault) → LineOf text d → d ≡ Err e → SaysCommand text c → ⊥
unfolding SaysCommand
says_nothing text e c d due is says = no_line (of_command c) e d is (due_once text d (Ok (of_command c)) due says.1)

pub faulty : (text : List ℕ) (e : LineFault) (c : Command) (d : Result Line LineFault) (b : Bool) → LineOf text d → (e ≡ NoMemory) ⊎ (d ≡ Err e) → b ≡ false → e ≢ NoMemory → IsTrue b ↔ SaysCommand text c
faulty text e c d b due (inl lacks) fails other = absurd (other lacks)
faulty text e c d b due (inr is) fails other = (λ yes. absurd (let f = subst IsTrue fails yes in cc), λ says. absurd (says_nothing text e c d due is says))
