-- The words of answers have no byte to escape.
use Rattle.std.proofs.Common.{◌≡◌, refl}
use Rattle.json.specs.Print.{escape, escape_byte}
use Rattle.pcef_line.specs.declared.fault.LineFault.{LineFault}
use Rattle.pcef_line.specs.declared.fault.LineFault.TheVariants.{LineTooLong, NotUtf8, NotJson, NotObject, UnknownDo, UnknownField, MissingField, BadField, BadName, BadHex, BadPacket, BadFilter, BadRule, NoMemory}
use Rattle.pcef_line.specs.declared.field.Field.{Field}
use Rattle.pcef_line.specs.declared.field.Field.TheVariants as field
use Rattle.pcef_line.specs.LineFaults.{fault_name}
use Rattle.pcef_line.specs.LineWords.{field_text}
use Rattle.pcef_model.specs.declared.answer.Refusal.{Refusal}
use Rattle.pcef_model.specs.declared.answer.Refusal.TheVariants as refusal
use Rattle.pcef_model.specs.declared.report.Cause.{Cause}
use Rattle.pcef_model.specs.declared.report.Cause.TheVariants.{Threshold, Requested, Disabled, RulesGone, Terminated}
use Rattle.pcef_model.specs.declared.report.InactiveCause.{InactiveCause}
use Rattle.pcef_model.specs.declared.report.InactiveCause.TheVariants.{BearerLost}
use Rattle.pcef_model.specs.declared.trigger.AccessKind.{AccessKind}
use Rattle.pcef_model.specs.declared.trigger.AccessKind.TheVariants.{RatChange, PlmnChange, UserLocationChange, UeTimeZoneChange}
use Rattle.pcef_answer.specs.ReportAnswers.{cause_text, inactive_text}
use Rattle.pcef_line.specs.LineTriggers.{event_text}
use Rattle.pcef_answer.specs.RefusalAnswers.{refusal_name}

pub plain_fault : (fault : LineFault) → escape (fault_name fault) ≡ fault_name fault
unfolding escape_byte
plain_fault LineTooLong = refl
plain_fault NotUtf8 = refl
plain_fault NotJson = refl
plain_fault NotObject = refl
plain_fault UnknownDo = refl
plain_fault UnknownField = refl
plain_fault (MissingField field) = refl
plain_fault (BadField field) = refl
plain_fault (BadName field) = refl
plain_fault (BadHex field) = refl
plain_fault (BadPacket field inner) = refl
plain_fault (BadFilter field inner) = refl
plain_fault (BadRule field inner) = refl
plain_fault NoMemory = refl

pub plain_field : (f : Field) → escape (field_text f) ≡ field_text f
unfolding escape_byte
plain_field field.Do = refl
plain_field field.Rule = refl
plain_field field.Key = refl
plain_field field.Grant = refl
plain_field field.Events = refl
plain_field field.Event = refl
plain_field field.Value = refl
plain_field field.Bearer = refl
plain_field field.Worker = refl
plain_field field.Dir = refl
plain_field field.Packet = refl
plain_field field.Name = refl
plain_field field.Precedence = refl
plain_field field.Filters = refl
plain_field field.Text = refl
plain_field field.Flow = refl
plain_field field.Qci = refl
plain_field field.Arp = refl
plain_field field.Level = refl
plain_field field.Capability = refl
plain_field field.Vulnerability = refl
plain_field field.Gbr = refl
plain_field field.Up = refl
plain_field field.Down = refl
plain_field field.Gate = refl

pub plain_refusal : (r : Refusal) → escape (refusal_name r) ≡ refusal_name r
unfolding escape_byte
plain_refusal refusal.Terminated = refl
plain_refusal refusal.Closed = refl
plain_refusal refusal.CommandsFull = refl
plain_refusal refusal.NameIsPredefined = refl
plain_refusal refusal.UnknownRule = refl
plain_refusal refusal.UnknownKey = refl
plain_refusal refusal.ZeroGrant = refl
plain_refusal refusal.UnknownBearer = refl
plain_refusal refusal.DefaultBearer = refl
plain_refusal (refusal.WorkersAttached workers) = refl
plain_refusal refusal.RulesFull = refl
plain_refusal refusal.LevelClash = refl
plain_refusal refusal.KeysFull = refl
plain_refusal refusal.UnknownQci = refl
plain_refusal refusal.RatesMissing = refl
plain_refusal refusal.RatesNotWanted = refl
plain_refusal refusal.TooManyBearers = refl
plain_refusal refusal.OverCapacityUp = refl
plain_refusal refusal.OverCapacityDown = refl
plain_refusal refusal.PoolUp = refl
plain_refusal refusal.PoolDown = refl
plain_refusal refusal.NoMemory = refl

pub plain_cause : (c : Cause) → escape (cause_text c) ≡ cause_text c
unfolding escape_byte
plain_cause Threshold = refl
plain_cause Requested = refl
plain_cause Disabled = refl
plain_cause RulesGone = refl
plain_cause Terminated = refl

pub plain_kind : (k : AccessKind) → escape (event_text k) ≡ event_text k
unfolding escape_byte
plain_kind RatChange = refl
plain_kind PlmnChange = refl
plain_kind UserLocationChange = refl
plain_kind UeTimeZoneChange = refl

pub plain_inactive : (c : InactiveCause) → escape (inactive_text c) ≡ inactive_text c
unfolding escape_byte
plain_inactive BearerLost = refl
