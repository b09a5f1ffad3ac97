use Rattle.std.proofs.Common.{rules, ◌≡◌, ◌∙◌, ◌+◌, ◌-◌, ◌<◌, ◌≤◌, ◌++◌, [], length, length-append, append-nil, ap, arith, subst, sym, take}
use Rattle.std.specs.Io.KnownBytes.{Consumes}
use Rattle.std.proofs.KnownBytes.{Consumes-kept, Consumes-nil, Consumes-trans}
use Rattle.pcef_script.specs.ScriptLines.{script_most}
use Rattle.pcef_run.proofs.input.read_all.Goals as goal

pub loop-bytes-init : goal.loop-bytes-init
loop-bytes-init g c =
    let a = g.R.Read.remaining c.args.reader.now in
    record {
      read = subst (Consumes a a) (sym c.new-bytes.ensures.items) (Consumes-nil a);
      most = omega (arith, ap length c.new-bytes.ensures.items);
      block = search rules;
    }

pub overflow_sub-room : goal.overflow_sub-room
overflow_sub-room g c =
    let lens : c.len.result ≡ length c.loop-bytes.bytes.items = search rules in
    subst (λ n. n ≤ script_most) (sym lens) c.loop-bytes.invariant.most

pub returns-in-Ok-eq0-clause-all : goal.returns-in-Ok-eq0-clause-all
returns-in-Ok-eq0-clause-all g c =
    let i = c.loop-bytes.invariant in
    let remaining = g.R.Read.remaining in
    let items = c.loop-bytes.bytes.items in
    let got = c.in-Ok-eq0.ensures.bytes in
    let zero = c.in-Ok-eq0.field-0-test in
    let room : 0 < length c.read_some.new.block = omega (arith, i.block, c.read_some.ensures.room) in
    let none : take c.in-Ok-eq0.field-0 c.read_some.new.block ≡ [] = ap (λ n. take n c.read_some.new.block) zero in
    record {
      read = subst (Consumes (remaining c.args.reader.now) (remaining c.read_some.new.reader)) (ap (λ t. items ++ t) none ∙ append-nil items)
          (Consumes-trans (remaining c.args.reader.now) (remaining c.loop-bytes.reader) (remaining c.read_some.new.reader) items _ i.read got.0);
      ended = got.1 zero room;
      most = i.most;
    }

pub returns-in-Ok-clause-fault : goal.returns-in-Ok-clause-fault
returns-in-Ok-clause-fault g c =
    let i = c.loop-bytes.invariant in
    let remaining = g.R.Read.remaining in
    let items = c.loop-bytes.bytes.items in
    let block = take c.in-Ok.n c.read_some.new.block in
    let len : length block ≡ c.in-Ok.n = sym c.in-Ok.ensures.bound.1 in
    let lens : c.len.result ≡ length items = search rules in (
      items ++ block,
      Consumes-trans (remaining c.args.reader.now) (remaining c.loop-bytes.reader) (remaining c.read_some.new.reader) items block i.read c.in-Ok.ensures.bytes.0,
      omega (arith, length-append items block, len, lens, i.most, c.in-Ok.ensures.most, c.if-n-room.true),
    )

pub returns-then-is_err-clause-fault : goal.returns-then-is_err-clause-fault
returns-then-is_err-clause-fault g c =
    let i = c.loop-bytes.invariant in
    let remaining = g.R.Read.remaining in
    let items = c.loop-bytes.bytes.items in
    let block = take c.in-Ok-2.n c.read_some.new.block in
    let len : length block ≡ c.in-Ok-2.n = sym c.in-Ok-2.ensures.bound.1 in
    let lens : c.len.result ≡ length items = search rules in (
      items ++ block,
      Consumes-trans (remaining c.args.reader.now) (remaining c.loop-bytes.reader) (remaining c.read_some.new.reader) items block i.read c.in-Ok-2.ensures.bytes.0,
      omega (arith, length-append items block, len, lens, i.most, c.in-Ok-2.ensures.most),
    )

pub loop-bytes-smaller : goal.loop-bytes-smaller
loop-bytes-smaller g c =
    let i = c.loop-bytes.invariant in
    let items = c.loop-bytes.bytes.items in
    let block = take c.in-Ok-2.n c.read_some.new.block in
    let len : length block ≡ c.in-Ok-2.n = sym c.in-Ok-2.ensures.bound.1 in
    let grown : c.extend_from_slice.new.self.items ≡ items ++ block = search rules in
    let some : 0 < c.in-Ok-2.n = search rules in
    omega (arith, ap length grown, length-append items block, len, some, i.most)

pub loop-bytes-preserved : goal.loop-bytes-preserved
loop-bytes-preserved g c =
    let i = c.loop-bytes.invariant in
    let remaining = g.R.Read.remaining in
    let items = c.loop-bytes.bytes.items in
    let block = take c.in-Ok-2.n c.read_some.new.block in
    let len : length block ≡ c.in-Ok-2.n = sym c.in-Ok-2.ensures.bound.1 in
    let lens : c.len.result ≡ length items = search rules in
    let grown : c.extend_from_slice.new.self.items ≡ items ++ block = search rules in
    let below : c.in-Ok-2.n < script_most - c.len.result + 1 = search rules in
    record {
      read = subst (Consumes (remaining c.args.reader.now) (remaining c.read_some.new.reader)) (sym grown)
          (Consumes-trans (remaining c.args.reader.now) (remaining c.loop-bytes.reader) (remaining c.read_some.new.reader) items block i.read c.in-Ok-2.ensures.bytes.0);
      most = omega (arith, ap length grown, length-append items block, len, lens, below, i.most);
      block = c.read_some.ensures.room ∙ i.block;
    }

pub returns-in-Err-clause-fault : goal.returns-in-Err-clause-fault
returns-in-Err-clause-fault g c =
    let i = c.loop-bytes.invariant in
    let remaining = g.R.Read.remaining in
    let items = c.loop-bytes.bytes.items in
    (items, Consumes-kept (remaining c.args.reader.now) (remaining c.loop-bytes.reader) (remaining c.read_some.new.reader) items i.read c.in-Err.ensures.bytes, i.most)
