-- The numbers of refusals.
use Rattle.std.specs.Prelude.{ℕ}
use Rattle.pcef_gx.specs.declared.failure.RuleFailure.{RuleFailure}
use Rattle.pcef_gx.specs.declared.failure.RuleFailure.TheVariants as failure
use Rattle.pcef_gx.specs.declared.fault.Problem.{Problem}
use Rattle.pcef_gx.specs.declared.fault.Problem.TheVariants as problem
use Rattle.pcef_model.specs.declared.answer.Refusal.{Refusal}
use Rattle.pcef_model.specs.declared.answer.Refusal.TheVariants as refusal

-- Result-Code (RFC 6733, clause 7.1)
abbrev pub result_code : Problem → ℕ
result_code problem.InvalidAvpBits = 3009
result_code problem.AvpUnsupported = 5001
result_code problem.InvalidAvpValue = 5004
result_code problem.MissingAvp = 5005
result_code problem.AvpOccursTooManyTimes = 5009
result_code problem.UnableToComply = 5012
result_code problem.InvalidAvpLength = 5014

-- Rule-Failure-Code (TS 29.212, clause 5.3.38)
abbrev pub failure_code : RuleFailure → ℕ
failure_code failure.UnknownRuleName = 1
failure_code failure.GatewayMalfunction = 4
failure_code failure.ResourcesLimitation = 5
failure_code failure.MaxNrBearersReached = 6
failure_code failure.UnknownBearerId = 7
failure_code failure.MissingFlowInformation = 9
failure_code failure.ResourceAllocationFailure = 10
failure_code failure.UnsuccessfulQosValidation = 11
failure_code failure.IncorrectFlowInformation = 12
failure_code failure.TdfApplicationIdentifierError = 14
failure_code failure.FilterRestrictions = 16

-- what a session's refusal of a rule is for the PCRF
abbrev pub failure_of : Refusal → RuleFailure
failure_of refusal.Terminated = failure.GatewayMalfunction
failure_of refusal.Closed = failure.GatewayMalfunction
failure_of refusal.CommandsFull = failure.ResourcesLimitation
failure_of refusal.NameIsPredefined = failure.GatewayMalfunction
failure_of refusal.UnknownRule = failure.UnknownRuleName
failure_of refusal.UnknownKey = failure.GatewayMalfunction
failure_of refusal.ZeroGrant = failure.GatewayMalfunction
failure_of refusal.UnknownBearer = failure.UnknownBearerId
failure_of refusal.DefaultBearer = failure.UnknownBearerId
failure_of (refusal.WorkersAttached count) = failure.GatewayMalfunction
failure_of refusal.RulesFull = failure.ResourcesLimitation
failure_of refusal.LevelClash = failure.GatewayMalfunction
failure_of refusal.KeysFull = failure.ResourcesLimitation
failure_of refusal.UnknownQci = failure.UnsuccessfulQosValidation
failure_of refusal.RatesMissing = failure.UnsuccessfulQosValidation
failure_of refusal.RatesNotWanted = failure.UnsuccessfulQosValidation
failure_of refusal.TooManyBearers = failure.MaxNrBearersReached
failure_of refusal.OverCapacityUp = failure.ResourceAllocationFailure
failure_of refusal.OverCapacityDown = failure.ResourceAllocationFailure
failure_of refusal.PoolUp = failure.ResourceAllocationFailure
failure_of refusal.PoolDown = failure.ResourceAllocationFailure
failure_of refusal.NoMemory = failure.GatewayMalfunction
