-- The CCRs of a session (TS 29.212, clauses 4.5.1, 4.5.3 and 4.5.7; RFC 8506, clause 8.2).
use Rattle.std.specs.Prelude.{ℕ, ◌≡◌, ◌<◌, ◌≤◌, ◌⊎◌, ◌+◌, ◌^◌, ◌==◌, ◌&&◌, Bool, true, false, bit_or, List, Option, Some, None, is_some, option_map, slice_index, slice_set, if◌then◌else◌}
use Rattle.pcef_gx_dialogue.specs.declared.ccr.SendRefusal.{SendRefusal}
use Rattle.pcef_gx_dialogue.specs.declared.ccr.SendRefusal.TheVariants.{IsOut, NoMemory, NoNumber}
use Rattle.pcef_gx_messages.specs.Identities.{Speaker}
use Rattle.pcef_gx_messages.specs.Sent.{kind_number, request_octets}
use Rattle.pcef_gx_messages.specs.declared.requesting.RequestKind.{RequestKind}
use Rattle.pcef_gx_messages.specs.declared.requesting.RequestMark.{RequestMark}
use Rattle.pcef_gx_updates.specs.declared.update.Update.{Update}

-- a CCR that is out: what it is for, its CC-Request-Number, its identifiers, how many reports of the session are told once
-- it was answered, and its octets
pub record Out : Type 0 where
  pub kind : RequestKind
  pub number : ℕ
  pub hop_by_hop : ℕ
  pub end_to_end : ℕ
  pub past : ℕ
  pub message : List ℕ

-- the CC-Request-Number of the next one, how many reports are told, and the one that is out
pub record Ccrs : Type 0 where
  pub next : ℕ
  pub told : ℕ
  pub out : Option Out

abbrev pub at_first : Ccrs
at_first = record { next = 0; told = 0; out = None }

-- a CCR goes out, with the octets of AVPs that tell so many reports: numbers count from 0, and what it tells isn't told
-- before it was answered
abbrev pub sent_with : Speaker → RequestMark → RequestKind → List ℕ → ℕ → Ccrs → Ccrs
sent_with s mark kind avps count c = record {
  next = c.next + 1;
  told = c.told;
  out = Some (record {
    kind = kind;
    number = c.next;
    hop_by_hop = mark.hop_by_hop;
    end_to_end = mark.end_to_end;
    past = c.told + count;
    message = request_octets s mark kind c.next avps;
  });
}

abbrev pub sent : Speaker → RequestMark → RequestKind → Update → Ccrs → Ccrs
sent s mark kind update c = sent_with s mark kind update.avps.items update.count c

-- The same octets with the T bit, 16 in the fifth octet: it may have been sent before (RFC 6733, clause 3).
abbrev pub with_t_bit : List ℕ → List ℕ
with_t_bit octets = slice_set octets 4 (bit_or (slice_index octets 4) 16)

abbrev pub out_again : Out → Out
out_again o = record o { message = with_t_bit o.message }

abbrev pub sent_again : Ccrs → Ccrs
sent_again c = record c { out = option_map out_again c.out }

-- it is given up: what it tells stays due
abbrev pub given_up : Ccrs → Ccrs
given_up c = record c { out = None }

-- an answer is one to the CCR that is out, by its CC-Request-Type and CC-Request-Number
abbrev pub is_answer : Option Out → ℕ → ℕ → Bool
is_answer None kind number = false
is_answer (Some o) kind number = (kind_number o.kind == kind) && (o.number == number)

-- how many reports are told once the one that is out is answered with success
abbrev pub past_of : Ccrs → Option Out → ℕ
past_of c None = c.told
past_of c (Some o) = o.past

-- it was answered: with success, all that it tells is told; else it stays due
abbrev pub answered_so : Bool → Ccrs → Ccrs
answered_so success c = record { next = c.next; told = if success then past_of c c.out else c.told; out = None }

-- another journal begins, of which nothing is told; the one that is out tells nothing of it
abbrev pub out_anew : Out → Out
out_anew o = record o { past = 0 }

abbrev pub anew : Ccrs → Ccrs
anew c = record c { told = 0; out = option_map out_anew c.out }

-- a number is left for one that tells so many reports, and one for the reports that are told
abbrev pub HasNumber : ℕ → Ccrs → Type 0
HasNumber count c = (c.next + 1 < 2 ^ 32) × (c.told + count < 2 ^ 64)

abbrev pub LacksNumber : ℕ → Ccrs → Type 0
LacksNumber count c = (2 ^ 32 ≤ c.next + 1) ⊎ (2 ^ 64 ≤ c.told + count)

-- why none goes out: one is out; else it has no number; else there is no memory for it
abbrev pub RefusesSend : SendRefusal → ℕ → Ccrs → Type 0
RefusesSend IsOut count c = is_some c.out ≡ true
RefusesSend NoNumber count c = (c.out ≡ None) × LacksNumber count c
RefusesSend NoMemory count c = (c.out ≡ None) × HasNumber count c
