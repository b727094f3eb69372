-- A place that was found, or not.
use Rattle.std.proofs.Common.{◌≡◌, ℕ, Bool, true, false, cond, Some, None, unwrap_or, refl, ap}

pub found_at : (has : Bool) (n at : ℕ) → Some at ≡ cond has (Some n) None → (has ≡ true) × (at ≡ n)
found_at true n at e = (refl, ap (λ o. unwrap_or o 0) e)
found_at false n at e = search (e)

pub found_nowhere : (has : Bool) (n : ℕ) → None ≡ cond has (Some n) None → has ≡ false
found_nowhere true n e = search (e)
found_nowhere false n e = refl
