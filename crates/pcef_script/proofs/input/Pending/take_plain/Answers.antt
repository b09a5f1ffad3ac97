use Rattle.std.proofs.Common.{◌≡◌, ◌∙◌, ◌≤◌, ◌+◌, ◌++◌, ◌-◌, ap, arith, length, subst, sym, take}
use Rattle.std.proofs.lemmas.List.{length-take}
use Rattle.pcef_script.specs.ScriptLines.{IsKept, KeptLine, kept_of, line_most}
use Rattle.pcef_script.proofs.KeptLines.{kept_at_read, kept_by, kept_is, some_dropped, some_more}
use Rattle.pcef_script.proofs.input.Pending.take_plain.Goals as goal

pub returns-then-self-clause-line : goal.returns-then-self-clause-line
returns-then-self-clause-line c = λ line is.
    let s = c.self.inside in
    let taken = c.plain_len-taken.result in
    let run = take taken c.args.bytes.now in
    let kept = kept_is (kept_at_read s.bytes.items s.is_too_long s.read) line c.args.self.now.read (c.self.view_is ∙ is) in
    kept_by s.bytes.items (line ++ run) s.is_too_long (s.read + taken) (some_dropped s.bytes.items line run s.is_too_long kept c.if-self.true)
    ∙ ap (λ n. kept_of (line ++ run) (n + taken)) (ap (λ (k : KeptLine). k.read) c.self.view_is)

pub returns-in-Ok-clause-line : goal.returns-in-Ok-clause-line
returns-in-Ok-clause-line c = λ line is.
    let s = c.self.inside in
    let taken = c.plain_len-taken-2.result in
    let run = take taken c.args.bytes.now in
    let kept = kept_is (kept_at_read s.bytes.items s.is_too_long s.read) line c.args.self.now.read (c.self.view_is ∙ is) in
    let room : length run ≤ line_most - length s.bytes.items = omega (arith, length-take taken c.args.bytes.now) in
    let all : c.extend_from_slice.new.self.items ≡ s.bytes.items ++ run = c.in-Ok.ensures.items ∙ ap (λ l. s.bytes.items ++ l) c.split_at.ensures.front in
    kept_by c.extend_from_slice.new.self.items (line ++ run) s.is_too_long (s.read + taken)
    (subst (λ bytes. IsKept bytes s.is_too_long (line ++ run)) (sym all) (some_more s.bytes.items line run s.is_too_long kept room))
    ∙ ap (λ n. kept_of (line ++ run) (n + taken)) (ap (λ (k : KeptLine). k.read) c.self.view_is)
