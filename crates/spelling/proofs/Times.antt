-- The laws of times: which reading a word gets, the length of a time spelt, and that it is read again as what it was.
use Prim.Native.Nat.{ℕ, ◌+◌, ◌-◌, ◌*◌, ◌/◌, ◌%◌, ◌≤◌}
use mathlib.Core.Path.{◌≡◌, refl, ap, ◌∙◌}
use mathlib.Core.Bool.{and-false}
use mathlib.Core.List.{List}
use native.Mathlib.Nat.{div-div-eq-div-mul}
use native.Mathlib.Omega.{arith}
use lib.ListN.{length, get_or}
use borrow.Author.Tests.{le-leb, eq-eqb, ne_eqb}
use Rattle.wire.proofs.Tests.{range_in}
use Rattle.spelling.specs.Words.{Some}
use Rattle.spelling.specs.Times.{two_digits, clock_of, clock_in, count_in, has_colons, time_in, tens, ones, clock_text, time_text}

-- ---- which reading
pub as_clock : (w : List ℕ) → length w ≡ 8 → get_or w 2 0 ≡ 58 → get_or w 5 0 ≡ 58 → clock_in w ≡ time_in w
unfolding time_in has_colons
as_clock w h e f = simp (eq-eqb (length w) 8 h, eq-eqb (get_or w 2 0) 58 e, eq-eqb (get_or w 5 0) 58 f)

pub not_eight : (w : List ℕ) → (length w ≡ 8 → ⊥) → count_in w ≡ time_in w
unfolding time_in has_colons
not_eight w h = simp (ne_eqb (length w) 8 h)

pub no_first_colon : (w : List ℕ) → (get_or w 2 0 ≡ 58 → ⊥) → count_in w ≡ time_in w
unfolding time_in has_colons
no_first_colon w h = simp (ne_eqb (get_or w 2 0) 58 h, and-false)

pub no_second_colon : (w : List ℕ) → (get_or w 5 0 ≡ 58 → ⊥) → count_in w ≡ time_in w
unfolding time_in has_colons
no_second_colon w h = simp (ne_eqb (get_or w 5 0) 58 h, and-false)

-- ---- eight bytes
pub time_length : (n : ℕ) → length (time_text n) ≡ 8
unfolding time_text
time_length n = refl

-- ---- spelt, and read again
two_back : (n : ℕ) → n ≤ 99 → two_digits (tens n) (ones n) ≡ n
unfolding two_digits
two_back n h =
    let e : (tens n - 48) * 10 + (ones n - 48) ≡ n = omega arith in
    rw (range_in 48 57 (tens n) (omega arith) (omega arith), range_in 48 57 (ones n) (omega arith) (omega arith)) e

clock_back : (h m s : ℕ) → h ≤ 99 → m ≤ 59 → s ≤ 59 → time_in (clock_text h m s) ≡ Some (h * 3600 + m * 60 + s)
unfolding time_in has_colons clock_in clock_of
clock_back h m s a b c =
    rw (two_back h a, two_back m (omega arith), two_back s (omega arith), le-leb h 99 a, le-leb m 59 b, le-leb s 59 c)

pub time_back : (n : ℕ) → n ≤ 86399 → time_in (time_text n) ≡ Some n
unfolding time_text
time_back n h =
    let d = div-div-eq-div-mul n 60 60 in
    let e : n / 3600 * 3600 + n / 60 % 60 * 60 + n % 60 ≡ n = omega arith in
    clock_back (n / 3600) (n / 60 % 60) (n % 60) (omega arith) (omega arith) (omega arith) ∙ ap Some e
