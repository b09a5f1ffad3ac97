-- What an answer needs of its request.
use Rattle.pcef_gx_dialogue.specs.Rars as rars
use Rattle.pcef_gx_dialogue.specs.declared.answering.Asker.{Asker}

abbrev pub asker_of : Asker → rars.Asker
asker_of a = rars.asker_of a.identity.now a.header.now a.message.now a.back.now
