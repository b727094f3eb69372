-- What holds of the bytes that were read holds of the input's first bytes, as many as there was room for; and what a failure that is told by another
-- error leaves as it was.
use Rattle.std.proofs.Common.{◌≡◌, ℕ, List, None, Some, IfSome, IfOk, OnOk, is_ok, IsErrAnd, MatchResult, Result, Ok, Err, length, take, ap, ◌∙◌, subst}
use Rattle.std.specs.Prelude.{Option}

pub of_input : (P : List ℕ → Type 0) (input : Option (List ℕ)) (n room : ℕ) (buf : List ℕ)
    → length buf ≡ room → IfSome input (λ xs. take n buf ≡ take (length buf) xs) → P (take n buf) → IfSome input (λ xs. P (take room xs))
of_input P None n room buf long first holds = tt
of_input P (Some xs) n room buf long first holds = subst P (first ∙ ap (λ k. take k xs) long) holds

-- a value that is there with another error was there with the first
pub ok_given : {T E D : Type 0} (P : T → Type 0) (Q : E → D → Type 0) (r : Result T E) (s : Result T D) (x : T)
    → MatchResult r (λ y. s ≡ Ok y) (λ e. IsErrAnd s (Q e)) → s ≡ Ok x → IfOk r P → P x
ok_given P Q (Ok y) s x cases was said = let same : y ≡ x = cc in subst P same said
ok_given P Q (Err e) s x cases was said = absurd (subst (λ t. IsErrAnd t (Q e)) was cases)

pub done_given : {T E D : Type 0} (A B : Type 0) (r : Result T E) (s : Result T D) → is_ok s ≡ is_ok r → OnOk r A → (A → B) → OnOk s B
done_given A B (Ok y) (Ok x) same said so = so said
done_given A B (Ok y) (Err d) same said so = tt
done_given A B (Err e) (Ok x) same said so = absurd (cc)
done_given A B (Err e) (Err d) same said so = tt
