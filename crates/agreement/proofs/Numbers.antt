-- What counts of an agreement is what was agreed, or nothing: by the terms, one after the other.
use mathlib.Core.Path.{◌≡◌, refl}
use mathlib.Core.Bool.{Bool, true, false}
use mathlib.Core.Logic.{◌⊎◌, inl, inr}
use Rattle.wire.specs.Tests.{pick}
use Rattle.codes.specs.Codes.{agreement_number}
use Rattle.agreement.specs.Words.{Price, Some, None, Agreement, NotMade, OnPrice, ToNullify, Settlement, Way, Heeded, Ignored}
use Rattle.agreement.specs.Agreed.{in_time, may_nullify, terms_of, heeded_of, heeded_number}

-- nothing counts, or this agreement does
abbrev pub Counts : Agreement → Heeded → Type 0
Counts a h = (heeded_number h ≡ 0) ⊎ (heeded_number h ≡ agreement_number a)

terms_count : (ok : Bool) (a : Agreement) (p : Price) (nullify : Bool) → Counts a (pick ok (terms_of a p nullify) Ignored)
terms_count false a p nullify = inl refl
terms_count true NotMade p nullify = inl refl
terms_count true OnPrice (Some m) nullify = inr refl
terms_count true OnPrice None nullify = inl refl
terms_count true ToNullify p true = inr refl
terms_count true ToNullify p false = inl refl

module _ (s : Settlement) (way : Way) (customer : Bool) where
  pub heeded_number_lem : (heeded_number (heeded_of s way customer) ≡ 0) ⊎ (heeded_number (heeded_of s way customer) ≡ agreement_number s.agreement)
  unfolding heeded_of
  heeded_number_lem = terms_count (in_time s.made customer) s.agreement s.agreed (may_nullify way customer)

  -- an answer that is the definition's, with its number
  pub numbered : {r : Heeded} → r ≡ heeded_of s way customer → (r ≡ heeded_of s way customer) × Counts s.agreement r
  numbered e = (e, rw e heeded_number_lem)
