use Rattle.std.proofs.Common.{rules, ◌≡◌, ◌∙◌, ◌++◌, ◌<◌, ℕ, List, [], All, length, get_or, take, drop, ap, subst, sym, arith}
use Rattle.std.proofs.Math.Seq.{take-length}
use Rattle.std.proofs.lemmas.List.{take-append-le}
use Rattle.std.specs.Prelude.{vec_len}
use Rattle.pcef_packet.specs.declared.header.Header.{Header}
use Rattle.pcef_gateway.specs.declared.arrivals.Arrival.{Arrival}
use Rattle.pcef_gateway.specs.Arriving.{headers_for}
use Rattle.pcef_gateway.specs.Sending.{HandInArrivals, HandInTheirs}
use Rattle.pcef_gateway.proofs.Handing.{of_arrivals}
use Rattle.pcef_gateway.proofs.context.RunContext.run_intake.Goals as goal

pub returns-clause-handed : goal.returns-clause-handed
returns-clause-handed g c =
    let handed = c.in_ok-handed.handed in
    let sent : List (List Header) = c.dispatch_all.new.rings in
    let arrivals : List Arrival = c.args.load.arrivals.items in
    let long : vec_len c.args.rings ≡ length c.args.rings.items = search rules in
    let many : length sent ≡ length c.args.rings.items = search rules in
    let same : c.deref.result.now ≡ arrivals = search rules in
    let each : (w : ℕ) → w < length c.args.rings.items → get_or sent w [] ≡ get_or c.args.rings.items w [] ++ headers_for w arrivals = search rules in
    let known : All (λ (a : Arrival). a.worker < length c.args.rings.items) arrivals = subst (λ n. All (λ (a : Arrival). a.worker < n) arrivals) long c.requires.known in
    let rest : List (List Header) = drop (length sent) c.args.rings.items in
    let as_many : c.args.rings.len ≡ length sent = long ∙ sym many in
    let own : take c.args.rings.len (sent ++ rest) ≡ sent =
    take-append-le c.args.rings.len sent rest (omega (arith, as_many)) ∙ ap (λ n. take n sent) as_many ∙ take-length sent in
    let theirs : HandInTheirs sent handed.dropped handed.finished.items =
    subst (λ (xs : List (List Header)). HandInTheirs xs handed.dropped handed.finished.items) own c.in_ok-handed.ensures in
    subst (λ n. HandInArrivals n arrivals handed.dropped handed.finished.items) (sym long)
    (of_arrivals c.args.rings.items sent arrivals handed.dropped handed.finished.items c.requires.empty many each known theirs)
