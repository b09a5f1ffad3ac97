-- Worlds, without the closures of their catalogs.
use Rattle.std.specs.Prelude.{List}
use Rattle.pcef_catalog.specs.declared.catalog.Catalog.{Catalog}
use Rattle.pcef_model.specs.declared.step.Step.{Step}
use Rattle.pcef_model.specs.Setting.{Setting}
use Rattle.pcef_model.specs.ProfileModel.{ProfileModel}
use Rattle.pcef_world.specs.declared.answer.StepAnswer.{StepAnswer}
use Rattle.pcef_world.specs.Steps.{Played, Standing, at_start, standing_of}
use Rattle.pcef_world.specs.Worlds.{World as WorldModel}
use Rattle.pcef_core.specs.Sessions.{setting_with}
use Rattle.pcef_core.specs.declared.world.World.{World}

abbrev pub world_of : {d h g : _} → World d h g → WorldModel
world_of w = w.state.value

-- what is fixed for the session of a world
abbrev pub world_setting : {d h g : _} → World d h g → Setting
world_setting w = (world_of w).session.setting

-- the state of a world: the journal of its session, and its workers
abbrev pub world_standing : {d h g : _} → World d h g → Standing
world_standing w = standing_of (world_of w)

-- a world that was opened with this profile and this catalog has made these steps, with the answers that are due
abbrev pub HasRun : {d h g c k l : _} → ProfileModel → Catalog c k l → List Step → List StepAnswer → World d h g → Type 0
HasRun profile catalog steps answers w =
    Played (setting_with profile catalog) at_start steps answers (world_standing w)
