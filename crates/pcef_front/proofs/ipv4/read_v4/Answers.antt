use Rattle.std.proofs.Common.{arith, inl, inr, subst}
use Rattle.pcef_front.specs.Fronts.{IsSettledBy}
use Rattle.pcef_front.specs.private.Transports.{header_with_v4, reading_v4}
use Rattle.pcef_front.proofs.Told.{on_front}
use Rattle.pcef_front.proofs.FrontsV4.{bad_len_told, bad_total_told, header_missing, header_told}
use Rattle.pcef_front.proofs.ipv4.read_v4.Goals as goal

pub returns-then-header_len-lt-LEAST_HEADER_LEN : goal.returns-then-header_len-lt-LEAST_HEADER_LEN
returns-then-header_len-lt-LEAST_HEADER_LEN c =
    let len = c.header_len_of-header_len.ensures in
    bad_len_told c.args.dir c.args.front.now c.args.whole c.requires.some c.if-whole-lt-LEAST_HEADER_LEN.false
    (elim c.then-header_len-lt-LEAST_HEADER_LEN.either [ inl low ↦ inl (omega arith) | inr high ↦ inr (let more = high.1 in omega arith) ])

pub returns-then-front-lt-TOTAL_LEN_END : goal.returns-then-front-lt-TOTAL_LEN_END
returns-then-front-lt-TOTAL_LEN_END c = c.without_total_len.ensures c.args.dir

pub returns-then-total_len-header_len : goal.returns-then-total_len-header_len
returns-then-total_len-header_len c =
    let len = c.header_len_of-header_len.ensures in
    let total = c.total_len_of-total_len.ensures in
    let least = c.if-header_len-lt-LEAST_HEADER_LEN.false in
    let within = c.if-whole-header_len.false in
    bad_total_told c.args.dir c.args.front.now c.args.whole c.if-front-lt-TOTAL_LEN_END.false (omega arith) (omega arith)
    (elim c.then-total_len-header_len.either [ inl low ↦ inl (omega arith) | inr high ↦ inr (let more = high.1 in omega arith) ])

pub returns-then-front-lt-LEAST_HEADER_LEN : goal.returns-then-front-lt-LEAST_HEADER_LEN
returns-then-front-lt-LEAST_HEADER_LEN c =
    let len = c.header_len_of-header_len.ensures in
    let total = c.total_len_of-total_len.ensures in
    let least = c.if-header_len-lt-LEAST_HEADER_LEN.false in
    let order = c.if-total_len-header_len.false in
    let within = c.if-whole-total_len.false in
    header_missing c.args.dir c.args.front.now c.args.whole c.if-front-lt-TOTAL_LEN_END.false c.if-front-lt-LEAST_HEADER_LEN.true (omega arith) (omega arith) (omega arith)

pub returns-in-Ok : goal.returns-in-Ok
returns-in-Ok c =
    let len = c.header_len_of-header_len.ensures in
    let total = c.total_len_of-total_len.ensures in
    let least = c.if-header_len-lt-LEAST_HEADER_LEN.false in
    let order = c.if-total_len-header_len.false in
    let within = c.if-whole-total_len.false in
    let fewer = c.requires.fewer in
    let told = header_told c.args.dir c.args.front.now c.args.whole c.if-front-lt-LEAST_HEADER_LEN.false (omega arith) (omega arith) (omega arith)
    c.ports_behind.result (c.ports_behind.ensures c.args.whole (omega arith) within) in
    rw c.header_with.ensures (subst (λ r. IsSettledBy (reading_v4 c.args.dir) c.args.front.now c.args.whole (on_front (header_with_v4 c.args.dir c.args.front.now) r)) c.in-Ok.is told)

pub returns-in-Err : goal.returns-in-Err
returns-in-Err c =
    let len = c.header_len_of-header_len.ensures in
    let total = c.total_len_of-total_len.ensures in
    let least = c.if-header_len-lt-LEAST_HEADER_LEN.false in
    let order = c.if-total_len-header_len.false in
    let within = c.if-whole-total_len.false in
    let fewer = c.requires.fewer in
    let told = header_told c.args.dir c.args.front.now c.args.whole c.if-front-lt-LEAST_HEADER_LEN.false (omega arith) (omega arith) (omega arith)
    c.ports_behind.result (c.ports_behind.ensures c.args.whole (omega arith) within) in
    subst (λ r. IsSettledBy (reading_v4 c.args.dir) c.args.front.now c.args.whole (on_front (header_with_v4 c.args.dir c.args.front.now) r)) c.in-Err.is told
