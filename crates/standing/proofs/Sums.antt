-- The sizes that are shown under a best sum to its size, or to more than 1,000,000 where that is what it is given as.
use Prim.Native.Nat.{ℕ, min}
use mathlib.Core.Path.{◌≡◌, refl, ap}
use mathlib.Core.List.{List, [], ◌∷◌, map}
use Rattle.halves.specs.Halves.{size_if}
use Rattle.best.specs.Lasts.{lasts}
use Rattle.best.specs.Best.{said_by, size_at, best_of}
use Rattle.best_lines.proofs.Shown.{shown}
use Rattle.best.specs.Found.{best_in}
use Rattle.standing.specs.Words.{Price, Posted, Half, Last}
use Rattle.standing.specs.Standing.{sizes_shown}

-- they are those that were summed
all_shown : (h : Half) (p : Price) (ls : List Last) → size_at p (map (said_by h) ls) ≡ sizes_shown h p ls
unfolding sizes_shown size_at size_if
all_shown h p [] = refl
all_shown h p (l ∷ ls) = rw (shown h p l, all_shown h p ls)

pub size_shown : (h : Half) (qs : List Posted) → (best_in h qs).size.0 ≡ min (sizes_shown h (best_in h qs).price (lasts qs)) 1000000
unfolding best_of
size_shown h qs = ap (λ (n : ℕ). min n 1000000) (all_shown h _ (lasts qs))
