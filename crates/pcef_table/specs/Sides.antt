-- The sides of an entry that is put among others.
use Rattle.std.specs.Prelude.{Bool, ◌&&◌, List}
use Rattle.pcef_table.specs.declared.change.Side.{Side}
use Rattle.pcef_table.specs.declared.change.Side.TheVariants.{Before, Behind}
use Rattle.pcef_table.specs.declared.entry.TableEntry.{TableEntry}
use Rattle.pcef_catalog.specs.declared.listing.Offer.{Offer}
use Rattle.pcef_table.specs.Sources.{name_of}
use Rattle.pcef_table.specs.Tables.{has_other_name, goes_ahead, is_behind}

abbrev pub is_beside : List Offer → TableEntry → Side → TableEntry → Bool
is_beside offers x Before e = goes_ahead offers x e
is_beside offers x Behind e = is_behind offers x e

-- the entry has another name than x, and stands on this side of it
abbrev pub stays_beside : List Offer → TableEntry → Side → TableEntry → Bool
stays_beside offers x side e = has_other_name offers (name_of offers x.source) e && is_beside offers x side e
