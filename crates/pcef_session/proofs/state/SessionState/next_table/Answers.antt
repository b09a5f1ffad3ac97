use Rattle.std.proofs.Common.{◌∙◌, sym}
use Rattle.pcef_session.proofs.ShownLater.{shows_after}
use Rattle.pcef_session.proofs.state.SessionState.next_table.Goals as goal

pub returns-in_ok-table_after_activation : goal.returns-in_ok-table_after_activation
returns-in_ok-table_after_activation c = record {
  makes = sym c.if-is_table.true ∙ c.is_table.ensures;
  shows = shows_after c.args.self.now.setting c.args.self.now.journal c.args.command.now _ c.in_ok-table_after_activation.ensures;
}
