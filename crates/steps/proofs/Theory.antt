-- What TP was found from is in the market: a quote's price and size are those of the quote on the side in error, an official's price is
-- the official's, and where there is no TP the official gave none. Quotes are told as too wide where TP passed them over.
use mathlib.Core.Path.{◌≡◌, refl}
use mathlib.Core.Bool.{Bool, true, false}
use Rattle.wire.specs.Tests.{pick}
use Rattle.forms.specs.Forms.{differential_of}
use Rattle.width.specs.Width.{wide}
use Rattle.theory.specs.Theory.{quote_for, source_of, too_wide, theory_of}
use Rattle.steps.specs.Words.{Contracts, Price, Some, None, Side, Form, Market, Quoted, Official, Source, Spread}
use Rattle.steps.specs.Found.{gap_of, spread_from, looked_of}

-- ---- by the cases of `source_of`: `wide` says that the quotes can't be trusted, p and k are the quote's price and size
by_quote : (wide : Bool) (p : Price) (k : Contracts) (o : Price) (s : Source) (n : Contracts)
    → source_of (pick wide None p) k o ≡ Some s → s.origin ≡ Quoted n → (p ≡ Some s.price) × (k ≡ n)
by_quote false (Some q) k o s n e h = (cc, cc)
by_quote false None k (Some q) s n e h = (cc, cc)
by_quote false None k None s n e h = (cc, cc)
by_quote true p k (Some q) s n e h = (cc, cc)
by_quote true p k None s n e h = (cc, cc)

by_official : (wide : Bool) (p : Price) (k : Contracts) (o : Price) (s : Source)
    → source_of (pick wide None p) k o ≡ Some s → s.origin ≡ Official → o ≡ Some s.price
by_official false (Some q) k o s e h = cc
by_official false None k (Some q) s e h = cc
by_official false None k None s e h = cc
by_official true p k (Some q) s e h = cc
by_official true p k None s e h = cc

by_none : (wide : Bool) (p : Price) (k : Contracts) (o : Price) → source_of (pick wide None p) k o ≡ None → o ≡ None
by_none false (Some q) k o e = cc
by_none false None k (Some q) e = cc
by_none false None k None e = refl
by_none true p k (Some q) e = cc
by_none true p k None e = refl

-- whether the quotes are told as too wide
abbrev pub told_wide : Spread → Bool
told_wide None = false
told_wide (Some g) = g.wide

by_spread : (d b o : Price) → told_wide (spread_from d b o) ≡ wide d b o
unfolding gap_of
by_spread (Some d) (Some b) (Some o) = refl
by_spread (Some d) (Some b) None = refl
by_spread (Some d) None o = refl
by_spread None b o = refl

-- ---- the laws
module _ (form : Form) (side : Side) (m : Market) where
  pub quoted_told : (s : Source) (n : Contracts) → theory_of form side m ≡ Some s → s.origin ≡ Quoted n
      → ((quote_for side m).price ≡ Some s.price) × ((quote_for side m).size ≡ n)
  unfolding theory_of
  quoted_told s n e h = by_quote (too_wide form m) (quote_for side m).price (quote_for side m).size m.official s n e h

  pub official_told : (s : Source) → theory_of form side m ≡ Some s → s.origin ≡ Official → m.official ≡ Some s.price
  unfolding theory_of
  official_told s e h = by_official (too_wide form m) (quote_for side m).price (quote_for side m).size m.official s e h

  pub none_told : theory_of form side m ≡ None → m.official ≡ None
  unfolding theory_of
  none_told e = by_none (too_wide form m) (quote_for side m).price (quote_for side m).size m.official e

  pub spread_told : told_wide (looked_of form side m).spread ≡ too_wide form m
  unfolding looked_of
  spread_told = by_spread (differential_of form) m.bid.price m.offer.price
