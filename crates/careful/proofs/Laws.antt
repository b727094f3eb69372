-- What a caution says is so, and nobody is told to be careful of a price that reads the same both ways.
use Prim.Native.Nat.{ℕ, zero, suc, ◌+◌, ◌<◌}
use mathlib.Core.Path.{◌≡◌, refl, sym, ap, ◌∙◌}
use mathlib.Core.Bool.{Bool, true, false, ◌||◌, and-false, true≢false}
use mathlib.Core.List.{List, [], ◌∷◌}
use native.Mathlib.Omega.{arith}
use native.Mathlib.Nat.{add-zero}
use lib.ListN.{get_or}
use lib.Dec.{ltb}
use borrow.Author.Tests.{ltb-true, le-ltb}
use Rattle.wire.specs.Numbers.{AreBytes, bytes, stored, number_at}
use Rattle.wire.specs.Tests.{pick}
use Rattle.wire.proofs.Numbers.{bytes_number}
use Rattle.wire.proofs.Tests.{both_true}
use Rattle.facts.specs.Numbers.{mills}
use Rattle.forms.specs.Heads.{pairs, is_length, known}
use Rattle.specimen.specs.Good.{good_case}
use Rattle.refusals.specs.Tests.{mills_ok, head_ok, head_fault_of}
use Rattle.careful.specs.Words.{Warning, Caution, None, Some, Cautions}
use Rattle.careful.specs.Careful.{turned_at, distance, warning_at, nearer, misleads, caution_at, no_cautions, cautions_in, cautions_of, is_careful, any_caution}
use Rattle.careful.proofs.Found.{of_case, of_none}

-- ---- where there is no caution

-- no number is nearer than itself
not_below : (n : ℕ) → ltb n n ≡ false
not_below n = le-ltb n n (omega arith)

unmoved : (w : Warning) → w.turned ≡ w.stands → misleads w ≡ false
unfolding misleads nearer
unmoved w e = simp (e, not_below, and-false)

module _ (s : List ℕ) (i : ℕ) where
  -- a price that turned is the same
  pub same_fine : turned_at s i ≡ number_at 4 s i → caution_at s i ≡ None
  unfolding caution_at warning_at
  same_fine e = simp (unmoved (warning_at s i) (ap mills e))

  -- the mark none
  pub none_fine : number_at 4 s i ≡ 4294967295 → caution_at s i ≡ None
  unfolding caution_at misleads warning_at
  none_fine e = simp e

-- ---- what a caution says

picked : (t : Bool) (v w : Warning) → pick t (Some v) None ≡ Some w → (t ≡ true) × (w ≡ v)
picked true v w e = (refl, cc)
picked false v w e = absurd (let z : ◌≡◌ {A = ℕ} 0 1 = cc in omega arith)

-- what is told of a place
pub record Told (s : List ℕ) (i : ℕ) (w : Warning) : Type 0 where
  pub stands : w.stands.0 ≡ number_at 4 s i
  pub turned : w.turned.0 ≡ turned_at s i
  pub execution : w.execution.0 ≡ number_at 4 s 8
  pub place : w.at ≡ i
  pub price : mills_ok w.stands ≡ true
  pub other : mills_ok w.turned ≡ true
  pub traded : mills_ok w.execution ≡ true
  pub nearer : distance (turned_at s i) (number_at 4 s 8) < distance (number_at 4 s i) (number_at 4 s 8)

-- Each number told stands at the place told, or is the one there turned; all are prices, and the turned one is nearer to the execution.
module _ (s : List ℕ) (i : ℕ) where
  holds_of : (w : Warning) → w ≡ warning_at s i → misleads w ≡ true → Told s i w
  unfolding misleads nearer warning_at
  holds_of w e h =
      let two = both_true _ (nearer w) h in
      let prices = both_true (mills_ok w.stands) (mills_ok w.turned) two.0 in
      let near = both_true (mills_ok w.execution) (ltb (distance w.turned.0 w.execution.0) (distance w.stands.0 w.execution.0)) two.1 in
      record {
        stands = simp e;
        turned = simp e;
        execution = simp e;
        place = simp e;
        price = prices.0;
        other = prices.1;
        traded = near.0;
        nearer = ltb-true _ _ (simp e at near.1);
      }

  pub told_truly : (w : Warning) → caution_at s i ≡ Some w → Told s i w
  unfolding caution_at
  told_truly w e =
      let p = picked (misleads (warning_at s i)) (warning_at s i) w e in holds_of w p.1 (ap misleads p.1 ∙ p.0)

-- ---- who has cautions

-- only bytes with the length and the head of a case
pub only_cases : (s : List ℕ) → (head_fault_of s ≡ 0 → ⊥) → cautions_of s ≡ no_cautions
only_cases s h = sym (of_none s refl h)

-- and each of those has the five, whatever a later test says
pub every_case : (s : List ℕ) → head_fault_of s ≡ 0 → cautions_of s ≡ cautions_in s
every_case s h = sym (of_case s refl h)

-- Where none is told there is none.
quiet : (a b c d e : Caution) → (is_careful a || is_careful b || is_careful c || is_careful d || is_careful e) ≡ false
    → record { bid = a; offer = b; official = c; buyer = d; seller = e } ≡ no_cautions
unfolding no_cautions
quiet None None None None None h = refl
quiet (Some w) b c d e h = absurd (true≢false h)
quiet None (Some w) c d e h = absurd (true≢false h)
quiet None None (Some w) d e h = absurd (true≢false h)
quiet None None None (Some w) e h = absurd (true≢false h)
quiet None None None None (Some w) h = absurd (true≢false h)

pub none_told : (c : Cautions) → any_caution c ≡ false → c ≡ no_cautions
unfolding any_caution
none_told c h = quiet c.bid c.offer c.official c.buyer c.seller h

-- ---- turned twice is the same: the bytes of the turned number, turned, are the number that stands
small_four : (a b c d : ℕ) → a < 256 → b < 256 → c < 256 → d < 256 → AreBytes (a ∷ b ∷ c ∷ d ∷ [])
small_four a b c d p q r t zero = p
small_four a b c d p q r t (suc zero) = q
small_four a b c d p q r t (suc (suc zero)) = r
small_four a b c d p q r t (suc (suc (suc zero))) = t
small_four a b c d p q r t (suc (suc (suc (suc k)))) = omega arith

pub turned_twice : (s : List ℕ) (i : ℕ) → AreBytes s → turned_at (bytes 4 (turned_at s i)) 0 ≡ number_at 4 s i
unfolding turned_at number_at
turned_twice s i small =
    let a = get_or s i 0 in
    let b = get_or s (i + 1) 0 in
    let c = get_or s (i + 2) 0 in
    let d = get_or s (i + 3) 0 in
    let four = small_four d c b a (small (i + 3)) (small (i + 2)) (small (i + 1)) (small i) in
    let e = bytes_number (d ∷ c ∷ b ∷ a ∷ []) four 4 0 in
    ap (λ (l : List ℕ). turned_at l 0) e ∙ simp add-zero

-- ---- the sheet of March: a good record whose execution is 1.260 and whose bid of 1.280 was written high byte first
abbrev march : List ℕ
march = stored (stored good_case 8 (bytes 4 1260)) 20 (0 ∷ 0 ∷ 5 ∷ 0 ∷ [])

pub march_told : cautions_of march ≡ record {
  bid = Some (record { stands = mills 327680; turned = mills 1280; execution = mills 1260; at = 20 });
  offer = None;
  official = None;
  buyer = None;
  seller = None;
}
unfolding cautions_of cautions_in caution_at misleads nearer warning_at turned_at distance head_fault_of head_ok number_at is_length known pairs
march_told = refl

-- and as it was meant it has none
pub march_meant : cautions_of (stored march 20 (bytes 4 1280)) ≡ no_cautions
unfolding cautions_of cautions_in caution_at misleads nearer warning_at turned_at distance head_fault_of head_ok number_at is_length known pairs no_cautions
march_meant = refl
