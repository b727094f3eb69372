use native.Mathlib.Omega.{arith}
use mathlib.Core.Path.{◌≡◌}
use Prim.Native.Nat.{◌+◌}
use Rattle.words.specs.Phrases.{phrases, start_of}
use Rattle.words.proofs.Rows.{nothing_laid}
use Rattle.words.proofs.Cut.{places, cut_out, phrase_short, no_phrase}
use Rattle.words.proofs.add_phrase.Goals as goal

pub returns-then-k-ge-PHRASE_COUNT : goal.returns-then-k-ge-PHRASE_COUNT
returns-then-k-ge-PHRASE_COUNT c = simp (no_phrase c.args.n (omega (arith, c.from-k.ensures))) (omega arith, nothing_laid _ _ (omega arith), omega arith)

pub slice_bounds-add_word-count : goal.slice_bounds-add_word-count
slice_bounds-add_word-count c = omega (arith, places c.from-k.result _ _ (omega arith) c.start_of-start.ensures c.start_of-end.ensures)

pub slice_bounds-add_word-start : goal.slice_bounds-add_word-start
slice_bounds-add_word-start c = omega (arith, places c.from-k.result _ _ (omega arith) c.start_of-start.ensures c.start_of-end.ensures)

pub slice_bounds-add_word-end : goal.slice_bounds-add_word-end
slice_bounds-add_word-end c = let h = places c.from-k.result _ _ (omega arith) c.start_of-start.ensures c.start_of-end.ensures in rw c.all_phrases.ensures h.1

pub add_word-requires : goal.add_word-requires
add_word-requires c = let n = c.from-k.result in
    rw (cut_out n _ _ (omega arith) c.start_of-start.ensures c.start_of-end.ensures _ c.all_phrases.ensures) (omega (arith, phrase_short n))

pub returns : goal.returns
returns c = let n = c.from-k.result in
    let w = simp (cut_out n _ _ (omega arith) c.start_of-start.ensures c.start_of-end.ensures _ c.all_phrases.ensures) at c.add_word.ensures in
    simp (← c.from-k.ensures) (w.0, w.1, omega (arith, w.0, phrase_short n))
