use Rattle.std.proofs.Common.{◌≡◌, List, []}
use Rattle.pcef_packet.specs.declared.header.Header.{Header}
use Rattle.pcef_gateway.proofs.Handing.{all_kept}
use Rattle.pcef_gateway.proofs.context.RunContext.start_next.Goals as goal

pub returns-clause-empty : goal.returns-clause-empty
returns-clause-empty g c = λ all_empty.
    let Empty : List Header → Type 0 = λ ring. ring ≡ [] in
    all_kept Empty c.keep.result _ _ c.in_ok-ring.ring c.keep.ensures c.in_ok-ring.ensures all_empty
