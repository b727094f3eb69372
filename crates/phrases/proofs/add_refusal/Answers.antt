use native.Mathlib.Omega.{arith}
use Rattle.text.proofs.Placed.{placed_next}
use Rattle.phrases.specs.Phrases.{refusal_text}
use Rattle.phrases.proofs.Lengths.{words_most}
use Rattle.phrases.proofs.add_refusal.Goals as goal

pub add_word-words-requires : goal.add_word-words-requires
add_word-words-requires c = rw c.words_of.ensures (omega (arith, words_most c.args.number))

pub add_byte-requires : goal.add_byte-requires
add_byte-requires c = let v = rw c.words_of.ensures at c.add_word-words.ensures in omega (arith, words_most c.args.number, v.0)

pub returns : goal.returns
unfolding refusal_text
returns c =
    let v = rw c.words_of.ensures at c.add_word-words.ensures in
    let e2 = placed_next _ _ _ _ _ _ _ _ (omega arith) c.add_word-word.ensures.0 c.add_word-word.ensures.1 c.add_decimal-figures.ensures.0 c.add_decimal-figures.ensures.1 in
    let e3 = placed_next _ _ _ _ _ _ _ _ (omega arith) e2.0 e2.1 c.add_word-colon.ensures.0 c.add_word-colon.ensures.1 in
    let e4 = placed_next _ _ _ _ _ _ _ _ (omega arith) e3.0 e3.1 v.0 v.1 in
    let e5 = placed_next _ _ _ _ _ _ _ _ (omega arith) e4.0 e4.1 c.add_byte.ensures.0 c.add_byte.ensures.1 in
    (e5.0, e5.1, omega (arith, words_most c.args.number, v.0))
