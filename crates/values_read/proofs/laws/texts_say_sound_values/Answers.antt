use Rattle.values_read.proofs.Texts.{texts_say}
use Rattle.values_read.proofs.laws.texts_say_sound_values.Goals as goal

pub returns : goal.returns
returns c = texts_say
