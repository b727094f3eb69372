-- Each origin exactly: of the TP that a quote and an official's price give, or of none where it was not looked for (`shut`).
use mathlib.Core.Path.{◌≡◌, refl}
use mathlib.Core.Bool.{Bool, true, false}
use borrow.Author.Tests.{eqb-false}
use Rattle.wire.specs.Tests.{pick}
use Rattle.facts.specs.declared.Mills.{Mills}
use Rattle.theory.specs.Words.{Contracts, Price, Some, None, Origin, Quoted, Official, Source, Theory}
use Rattle.theory.specs.Theory.{source_of, theory_price, origin_number, theory_origin}

-- ---- 0: no TP
numbered : (o : Origin) → origin_number o ≡ 0 → ⊥
numbered (Quoted size) e = eqb-false 1 0 refl e
numbered Official e = eqb-false 2 0 refl e

pub found_numbered : (s : Source) → theory_origin (Some s) ≡ 0 → ⊥
found_numbered s e = numbered s.origin e

pub none_priced : (t : Theory) → theory_origin t ≡ 0 → theory_price t ≡ None
none_priced (Some s) e = absurd (found_numbered s e)
none_priced None e = refl

pub unpriced : (t : Theory) → theory_price t ≡ None → theory_origin t ≡ 0
unpriced (Some s) e = cc
unpriced None e = refl

-- ---- 1 and 2
abbrev given : Bool → Price → Contracts → Price → Theory
given shut q size o = pick shut None (source_of q size o)

pub one_quoted : (shut : Bool) (q : Price) (size : Contracts) (o : Price) → theory_origin (given shut q size o) ≡ 1
    → (p : Mills) × (theory_price (given shut q size o) ≡ Some p) × (q ≡ Some p)
one_quoted true q size o e = absurd (eqb-false 0 1 refl e)
one_quoted false (Some p) size o e = (p, refl, refl)
one_quoted false None size (Some p) e = absurd (eqb-false 2 1 refl e)
one_quoted false None size None e = absurd (eqb-false 0 1 refl e)

pub quoted_one : (shut : Bool) (q : Price) (size : Contracts) (o : Price) (p : Mills) → theory_price (given shut q size o) ≡ Some p → q ≡ Some p
    → theory_origin (given shut q size o) ≡ 1
quoted_one true q size o p e h = cc
quoted_one false (Some r) size o p e h = refl
quoted_one false None size o p e h = cc

pub two_official : (shut : Bool) (q : Price) (size : Contracts) (o : Price) → theory_origin (given shut q size o) ≡ 2
    → (p : Mills) × (theory_price (given shut q size o) ≡ Some p) × (q ≡ None) × (o ≡ Some p)
two_official true q size o e = absurd (eqb-false 0 2 refl e)
two_official false (Some p) size o e = absurd (eqb-false 1 2 refl e)
two_official false None size (Some p) e = (p, refl, refl, refl)
two_official false None size None e = absurd (eqb-false 0 2 refl e)

pub official_two : (shut : Bool) (q : Price) (size : Contracts) (o : Price) (p : Mills) → theory_price (given shut q size o) ≡ Some p → q ≡ None → o ≡ Some p
    → theory_origin (given shut q size o) ≡ 2
official_two true q size o p e h k = cc
official_two false (Some r) size o p e h k = cc
official_two false None size (Some r) p e h k = refl
official_two false None size None p e h k = cc
