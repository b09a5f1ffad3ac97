use Rattle.std.proofs.Common.{map}
use Rattle.pcef_session.specs.Following.{row_of}
use Rattle.pcef_session.proofs.Leaving.{finish_done, finish_refused, flushed_attached}
use Rattle.pcef_session.proofs.state.SessionState.finish_items.Goals as goal

pub detach-requires : goal.detach-requires
detach-requires c =
    flushed_attached c.args.self.now.setting c.args.worker (map row_of c.args.items.now) c.args.self.now.journal c.flush_items.new.self.journal _ c.in-Ok.ensures.answer

pub returns-in-Err-clause-answer : goal.returns-in-Err-clause-answer
returns-in-Err-clause-answer c =
    finish_refused c.args.self.now.setting c.args.self.now.journal c.flush_items.new.self.journal c.args.worker (map row_of c.args.items.now) c.in-Err.refusal c.in-Err.ensures.answer

pub returns-in-Ok-clause-answer : goal.returns-in-Ok-clause-answer
returns-in-Ok-clause-answer c =
    finish_done c.args.self.now.setting c.args.self.now.journal c.flush_items.new.self.journal c.detach.new.self.journal c.args.worker (map row_of c.args.items.now) _ c.lane_len-rows.result
    c.in-Ok.ensures.answer c.lane_len-rows.ensures c.detach.ensures.journal
