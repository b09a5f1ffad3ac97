-- What callers see of a dialogue.
use Rattle.pcef_gx_handle.specs.Dialogues.{Dialoguing}
use Rattle.pcef_gx_handle.specs.declared.held.Dialogue.TheInside.{Inside}

abbrev pub dialoguing_of : Inside → Dialoguing
dialoguing_of d = record {
  answering = d.responder;
  ccrs = d.ccrs;
  profile = d.profile;
  session = d.session;
  stage = d.stage;
  due = d.due.items;
  due_out = d.due_out;
  watches_loss = d.watches_loss;
}
