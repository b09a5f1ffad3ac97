-- What is said of an end.
use Rattle.std.proofs.Common.{◌≡◌, ◌∙◌, ◌==◌, ℕ, Bool, false, List, [], ◌++◌, append-nil, append_assoc, ap, length, refl, sym}
use Rattle.std.proofs.lemmas.Bool.{false≢true}
use Rattle.std.specs.Prelude.{OnOk, IfErr, Option, Result, Ok, Err}
use Rattle.std.specs.Io.KnownBytes.{Appends}
use Rattle.std.proofs.KnownBytes.{Appends-nil, Appends-trans}
use Rattle.pcef_script.specs.declared.fault.ScriptFault.{ScriptFault}
use Rattle.pcef_script.specs.declared.fault.ScriptFault.TheVariants as script
use Rattle.pcef_script.specs.ScriptLines.{AppendsFront}
use Rattle.pcef_run.specs.declared.end.End.{End}
use Rattle.pcef_run.specs.Ends.{end_reason, end_text, line_reason, reason_front}
use Rattle.pcef_run.specs.EndWriting.{AppendsSome, WritesEnd, WritesMore, WritesReason}

-- bytes that were put, or a front of them
pub put_some : {T : Type 0} (r : Result T ScriptFault) (a b : Option (List ℕ)) (text : List ℕ) → OnOk r (Appends a b text) → IfErr r (λ e. (e ≡ script.Write) × AppendsFront a b text) → AppendsSome a b
put_some (Ok done) a b text all front = (text, all)
put_some (Err e) a b text all front = (front.1.0, front.1.3)

pub more_some : (a b c : Option (List ℕ)) → AppendsSome a b → AppendsSome b c → AppendsSome a c
more_some a b c h k = (h.0 ++ k.0, Appends-trans a b c h.0 k.0 h.1 k.1)

-- a line that isn't empty
pub not_empty : (line : List ℕ) {text : List ℕ} (flag : Bool) → text ≡ line → flag ≡ (length line == 0) → flag ≡ false → text ≡ [] → ⊥
not_empty line flag is empty fails none = false≢true (sym fails ∙ empty ∙ ap (λ t. length t == 0) (sym is ∙ none))

-- nothing is said
pub told_nothing : (end : End) (a : Option (List ℕ)) → WritesEnd end a a
told_nothing end a = ([], λ none. refl, ([], end_text end ++ (end_reason end ++ []), refl, Appends-nil a))

-- the line, or a front of it
pub told_line : (end : End) (a b : Option (List ℕ)) → AppendsFront a b (end_text end) → WritesEnd end a b
told_line end a b (front, rest, is, appended) =
    let more = end_reason end ++ [] in
    ([], λ none. refl, (front, rest ++ more, ap (λ t. t ++ more) is ∙ append_assoc front rest more, appended))

-- what is wrong with the line that doesn't fit, or a front of it
pub reason_told : (end : End) (a b : Option (List ℕ)) → AppendsFront a b (line_reason end) → WritesReason end a b
reason_told end a b (front, rest, is, appended) = ([], (front, rest, append-nil (line_reason end) ∙ is, appended))

-- and what follows it
pub reason_then : (end : End) (a b c : Option (List ℕ)) → Appends a b (line_reason end) → AppendsSome b c → WritesReason end a c
reason_then end a b c told (more, appended) =
    let whole = line_reason end ++ more in
    (more, (whole, [], sym (append-nil whole), Appends-trans a b c (line_reason end) more told appended))

-- the program's name before that, or a front of it
pub name_told : (end : End) (a b : Option (List ℕ)) → AppendsFront a b (reason_front end) → WritesMore end a b
name_told end a b (front, rest, is, appended) =
    let more = line_reason end ++ [] in
    ([], (front, rest ++ more, append_assoc (reason_front end) (line_reason end) [] ∙ ap (λ t. t ++ more) is ∙ append_assoc front rest more, appended))

-- and what follows it
pub name_then : (end : End) (a b c : Option (List ℕ)) → Appends a b (reason_front end) → WritesReason end b c → WritesMore end a c
name_then end a b c told (more, (front, rest, is, appended)) =
    let name = reason_front end in
    (more, (name ++ front, rest, append_assoc name (line_reason end) more ∙ ap (λ t. name ++ t) is ∙ sym (append_assoc name front rest), Appends-trans a b c name front told appended))

-- the line, and what follows it
pub told_more : (end : End) (a b c : Option (List ℕ)) → (end_text end ≡ [] → ⊥) → Appends a b (end_text end) → WritesMore end b c → WritesEnd end a c
told_more end a b c some line (more, (front, rest, is, appended)) =
    let text = end_text end in
    (more, λ none. absurd (some none), (text ++ front, rest, ap (λ t. text ++ t) is ∙ sym (append_assoc text front rest), Appends-trans a b c text front line appended))
