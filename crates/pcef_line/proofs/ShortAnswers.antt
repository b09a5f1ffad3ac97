-- What a line of few fields asks for.
use Rattle.std.proofs.Common.{◌≡◌, ℕ, ◌≤◌, List, Some, None, Ok, refl, arith, le-leb}
use Rattle.std.specs.Prelude.{codes}
use Rattle.serde_json.specs.Data.{string, number, unsigned, object}
use Rattle.pcef_model.specs.declared.step.Step.TheVariants.{Refresh, Flush}
use Rattle.pcef_line.specs.declared.line.Line.TheVariants.{Step}
use Rattle.pcef_filter.specs.Reading.{reading_of}
use Rattle.serde_json.specs.Data.{Data}
use Rattle.serde_json.specs.Read.{read}
use Rattle.pcef_line.specs.LineOf.{fields_at, line_at, word_at, worker_at, line_by}
use Rattle.pcef_line.specs.LineValues.{number_at, member_at, dir_at, octets_at, packet_at, text_at}
use Rattle.pcef_line.specs.ShortLines.{members_of, taken}

pub take_is : (dir packet : List ℕ) (worker : ℕ) → worker ≤ 15 → line_at reading_of (object (members_of (Some (string dir)) (Some (string (codes "take"))) (Some (string packet)) (Some (number (unsigned worker))))) ≡ taken dir packet worker
unfolding fields_at line_at word_at worker_at number_at member_at dir_at octets_at packet_at text_at
take_is dir packet worker le = rw (le-leb 0 worker (omega arith), le-leb worker 15 le) refl

pub refresh_is : (worker : ℕ) → worker ≤ 15 → line_at reading_of (object (members_of None (Some (string (codes "refresh"))) None (Some (number (unsigned worker))))) ≡ Ok (Step (Refresh worker))
unfolding fields_at line_at word_at worker_at number_at member_at dir_at octets_at packet_at text_at
refresh_is worker le = rw (le-leb 0 worker (omega arith), le-leb worker 15 le) refl

pub flush_is : (worker : ℕ) → worker ≤ 15 → line_at reading_of (object (members_of None (Some (string (codes "flush"))) None (Some (number (unsigned worker))))) ≡ Ok (Step (Flush worker))
unfolding fields_at line_at word_at worker_at number_at member_at dir_at octets_at packet_at text_at
flush_is worker le = rw (le-leb 0 worker (omega arith), le-leb worker 15 le) refl

pub read_as : (text : List ℕ) (d : Data) → read text ≡ Some d → line_by reading_of text ≡ line_at reading_of d
unfolding line_by
read_as text d e = rw e refl
