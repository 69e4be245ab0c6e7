use Rattle.std.proofs.Common.{◌≡◌, map, string_bytes, drop}
use Rattle.usdstage.specs.Command.{blank, take_words}
use Rattle.usdstage.proofs.words.take_words.Given as goal

abbrev pub invariant-loop-word : goal.invariant-loop-word
invariant-loop-word l = take_words blank (map string_bytes l.words) ≡ take_words l.draft (map string_bytes (drop l.word-index l.words))
