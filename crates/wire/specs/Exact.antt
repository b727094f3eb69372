-- Exactness (RULE R13.2): any two results that a promise allows are equal. A promise is read as Rattle has it from the contract: of the
-- arguments, the answer, and the arguments afterwards; the two calls share the arguments, and nothing else.
use Rattle.std.specs.Prelude.{ℕ, ◌≡◌, List}
use Rattle.std.specs.Borrow.{MutBor}

-- the promise allows one answer
abbrev pub Exact : {Args Answer : Type 0} → (Args → Answer → Args → Type 0) → Type 0
Exact {Args} {Answer} Post = (a e e' : Args) (r r' : Answer) → Post a r e → Post a r' e' → r ≡ r'

-- the promise allows one answer with one content of the lent buffer, which is the argument that `buffer` picks
abbrev pub ExactIn : {Args Answer : Type 0} → (Args → MutBor (List ℕ)) → (Args → Answer → Args → Type 0) → Type 0
ExactIn {Args} {Answer} buffer Post = (a e e' : Args) (r r' : Answer) → Post a r e → Post a r' e' → (r ≡ r') × ((buffer e).now ≡ (buffer e').now)
