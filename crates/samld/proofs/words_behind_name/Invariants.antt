-- The words so far, and then those that are left, are the words behind the first.
use Rattle.std.proofs.Common.{◌≡◌, ◌++◌, drop, map, string_bytes}
use Rattle.std.specs.Vec.Iter.{into_iter_items}
use Rattle.samld.proofs.words_behind_name.Given as goal

abbrev pub invariant-loop-word : goal.invariant-loop-word
invariant-loop-word l = l.words.items ++ map string_bytes (into_iter_items l.word-iterator) ≡ map string_bytes (drop 1 (into_iter_items l.fn.arguments))
