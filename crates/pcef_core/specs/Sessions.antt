-- Sessions, without the closures of their catalogs.
use Rattle.pcef_catalog.specs.Catalogs.{offers_of}
use Rattle.pcef_catalog.specs.declared.catalog.Catalog.{Catalog}
use Rattle.pcef_model.specs.Entries.{Journal}
use Rattle.pcef_model.specs.Setting.{Setting}
use Rattle.pcef_model.specs.ProfileModel.{ProfileModel, setting_of}
use Rattle.pcef_session.specs.SessionModel.{SessionModel}
use Rattle.pcef_core.specs.declared.session.Session.{Session}

abbrev pub state_of : {d h g : _} → Session d h g → SessionModel
state_of s = s.state.value.session

-- what is fixed for a session
abbrev pub setting_in : {d h g : _} → Session d h g → Setting
setting_in s = (state_of s).setting

-- the journal of a session
abbrev pub journal_in : {d h g : _} → Session d h g → Journal
journal_in s = (state_of s).journal

-- what a profile fixes for a session, with the rules that a catalog offers it
abbrev pub setting_with : {d h g : _} → ProfileModel → Catalog d h g → Setting
setting_with profile catalog = setting_of profile (offers_of catalog)
