use Rattle.pcef_sessions.proofs.Scripts.{lines_stay, open_script, renewed_script, whole_script}
use Rattle.pcef_sessions.proofs.laws.sessions_are_scripts.Goals as goal

pub returns-clause-opened : goal.returns-clause-opened
returns-clause-opened c = open_script

pub returns-clause-renewed : goal.returns-clause-renewed
returns-clause-renewed c = renewed_script

pub returns-clause-whole : goal.returns-clause-whole
returns-clause-whole c = whole_script

pub returns-clause-lines : goal.returns-clause-lines
returns-clause-lines c = lines_stay
