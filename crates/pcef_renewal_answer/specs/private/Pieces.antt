-- The answer of a session that was renewed, piece by piece.
use Rattle.std.specs.Prelude.{ℕ, ◌++◌, List, codes, drop, reverse}
use Rattle.serde_json.specs.Written.{compact_text}
use Rattle.pcef_model.specs.Entries.{reports}
use Rattle.pcef_session.specs.SessionModel.{SessionModel}
use Rattle.pcef_answer.specs.ReportAnswers.{reports_data}
use Rattle.pcef_renewal.specs.declared.places.BearerNumbers.{BearerNumbers}
use Rattle.pcef_renewal_answer.specs.Texts.{pairs_data}

-- by the text of its reports
abbrev pub pieces_of : List BearerNumbers → List ℕ → List ℕ
pieces_of pairs reports =
    codes "{\"bearers\":" ++ (compact_text (pairs_data pairs) ++ (codes ",\"ok\":true,\"reports\":" ++ (reports ++ codes "}")))

-- the reports of a session that aren't forgotten
abbrev pub reports_text : SessionModel → List ℕ
reports_text s = compact_text (reports_data (drop s.forgotten (reverse (reports s.journal))))
