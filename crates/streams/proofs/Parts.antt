-- One more part of a buffer that is read into, and of bytes that are written.
use Rattle.std.proofs.Common.{◌≡◌, ℕ, ◌+◌, ◌-◌, ◌≤◌, List, ◌++◌, length, take, drop, sym, ap, ◌∙◌, le_refl, drop_at, length-take-le}
use Rattle.std.proofs.lemmas.Slice.{take-put_mid_below}
use Rattle.std.proofs.lemmas.List.{take_rest}
use borrow.Rule.Slice.PartMut.{put_mid, post_of}
use lib.Seq.{take-add, take-append-le}

-- what was read before, and n bytes of what stands behind it now
pub read_more : (a k n : ℕ) (xs ys : List ℕ) → a ≤ length xs → n ≤ length ys → take a xs ++ take n ys ≡ take (a + n) (put_mid a k xs ys)
read_more a k n xs ys within fits =
    let new = put_mid a k xs ys in
    let after = post_of a k xs in
    ap (λ l. take a xs ++ l) (sym (take-append-le n ys after fits))
    ∙ ap (λ l. take a xs ++ take n l) (sym (drop_at (take a xs) (ys ++ after) a (length-take-le a xs within)))
    ∙ ap (λ l. l ++ take n (drop a new)) (sym (take-put_mid_below a k xs ys a (le_refl a) within))
    ∙ sym (take-add a n new)

-- what is written, and n bytes of the rest
pub written_more : (a n : ℕ) (xs : List ℕ) → take a xs ++ take n (take (length xs - a) (drop a xs)) ≡ take (a + n) xs
written_more a n xs = ap (λ l. take a xs ++ take n l) (take_rest xs a) ∙ sym (take-add a n xs)
