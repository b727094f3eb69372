-- A case in its sheet's bytes; and two sheets whose bytes differ in one case only, after its head: the other is cut at the same places.
use Prim.Native.Nat.{ℕ, suc, ◌+◌, ◌≤◌, ◌<◌}
use mathlib.Core.Path.{◌≡◌, sym, ap, ◌∙◌}
use mathlib.Core.List.{List, [], ◌∷◌, ◌++◌, append_assoc}
use native.Mathlib.Omega.{arith}
use lib.ListN.{length, take, drop, get_or, set, length-append, length-take, length-drop, length-set, take-append-drop, get_or-append}
use lib.Seq.{ext_get_or, get_or-take, get_or-drop, get_or-append-add, get_or-set_same, get_or-set_other, drop-drop, set_split, set-get_or, take-append_seam, drop-append_seam, drop-append-add, length-take-le}
use lib.Dec.{eqb}
use Rattle.wire.specs.Numbers.{number_at}
use Rattle.cut.specs.Cut.{IsCase, Parts, cut, cases_in, case_at, whole, together, start_of, SameButIn}
use Rattle.cut.proofs.First.{case_low}
use Rattle.cut.proofs.Cut.{cut_joins, cut_each, cut_onto}
use Rattle.cut.proofs.Laws.{together_append, set_each, case_is}

-- bytes that agree from 0 to n, or from n on
front_same : (s t : List ℕ) (n : ℕ) → length t ≡ length s → ((i : ℕ) → i < n → get_or t i 0 ≡ get_or s i 0) → take n t ≡ take n s
front_same s t n e h =
    ext_get_or 0 (take n t) (take n s) (simp (length-take, e))
    (λ i l. let m : i < n = omega (arith, length-take n t) in get_or-take n t i 0 m ∙ h i m ∙ sym (get_or-take n s i 0 m))

back_same : (s t : List ℕ) (n : ℕ) → length t ≡ length s → ((i : ℕ) → n ≤ i → get_or t i 0 ≡ get_or s i 0) → drop n t ≡ drop n s
back_same s t n e h =
    ext_get_or 0 (drop n t) (drop n s) (simp (length-drop, e))
    (λ i l. get_or-drop n t i 0 ∙ h (n + i) (omega arith) ∙ sym (get_or-drop n s i 0))

-- bytes as many as a case's, with the same head, are a case
head_same : (c d : List ℕ) (i : ℕ) → ((k : ℕ) → k < i + 2 → get_or d k 0 ≡ get_or c k 0) → number_at 2 d i ≡ number_at 2 c i
unfolding number_at
head_same c d i h = simp (h (i + 0) (omega arith), h (i + 1) (omega arith))

pub kept_case : (c d : List ℕ) → IsCase c → length d ≡ length c → ((k : ℕ) → k < 4 → get_or d k 0 ≡ get_or c k 0) → IsCase d
kept_case c d is long same =
    let size = head_same c d 0 (λ k m. same k (omega arith)) in
    let kind = head_same c d 2 (λ k m. same k (omega arith)) in
    record { pair = rw (size, kind) is.pair; long = long ∙ is.long ∙ sym size }

-- bytes in three parts, and others that are as many and agree but for the middle one
module _ (s t a c b : List ℕ) (parts : s ≡ a ++ (c ++ b)) (long : length t ≡ length s) where
  abbrev there : List ℕ
  there = take (length c) (drop (length a) t)

  in_front : ((i : ℕ) → i < length a → get_or t i 0 ≡ get_or s i 0) → take (length a) t ≡ a
  in_front h = front_same s t (length a) long h ∙ rw (parts, take-append_seam)

  behind : ((i : ℕ) → length a + length c ≤ i → get_or t i 0 ≡ get_or s i 0) → drop (length a + length c) t ≡ b
  behind h = back_same s t (length a + length c) long h ∙ rw parts (drop-append-add a (c ++ b) (length c) ∙ drop-append_seam c b)

  three : ((i : ℕ) → i < length a → get_or t i 0 ≡ get_or s i 0) → ((i : ℕ) → length a + length c ≤ i → get_or t i 0 ≡ get_or s i 0) → t ≡ a ++ (there ++ b)
  three h g =
      sym (take-append-drop (length a) t)
      ∙ ap (λ (x : List ℕ). x ++ drop (length a) t) (in_front h)
      ∙ ap (λ (x : List ℕ). a ++ x) (sym (take-append-drop (length c) (drop (length a) t))
      ∙ ap (λ (x : List ℕ). there ++ x) (drop-drop (length c) (length a) t ∙ behind g))

  there_long : length there ≡ length c
  there_long =
      length-take-le (length c) (drop (length a) t)
      (omega (arith, length-drop (length a) t, long, ap length parts, length-append a (c ++ b), length-append c b))

  there_same : (k : ℕ) → k < length c → get_or t (length a + k) 0 ≡ get_or s (length a + k) 0 → get_or there k 0 ≡ get_or c k 0
  there_same k m e =
      get_or-take (length c) (drop (length a) t) k 0 m ∙ get_or-drop (length a) t k 0 ∙ e
      ∙ rw parts (get_or-append-add a (c ++ b) k 0 ∙ get_or-append c b 0 k m)

-- ---- case j in its place
module _ (s : List ℕ) (j : ℕ) (l : j < cases_in s) where
  abbrev front : List ℕ
  front = together (take j (cut s).cases)

  abbrev back : List ℕ
  back = together (drop (suc j) (cut s).cases) ++ (cut s).left

  -- another case in the place of case j, and what is left
  with_case : (d : List ℕ) → together (set (cut s).cases j d) ++ (cut s).left ≡ front ++ (d ++ back)
  with_case d =
      ap (λ (x : List ℕ). x ++ (cut s).left)
      (ap together (set_split (cut s).cases j d l) ∙ together_append (take j (cut s).cases) (d ∷ drop (suc j) (cut s).cases))
      ∙ simp append_assoc

  parts : s ≡ front ++ (case_at s j ++ back)
  unfolding case_at
  parts =
      sym (cut_joins s)
      ∙ ap (λ (cs : List (List ℕ)). together cs ++ (cut s).left) (sym (set-get_or (cut s).cases j []))
      ∙ with_case (get_or (cut s).cases j [])

  -- a byte of case j is the sheet's from its place on
  pub case_byte : (i : ℕ) → i < length (case_at s j) → get_or (case_at s j) i 0 ≡ get_or s (start_of s j + i) 0
  unfolding start_of
  case_byte i h = sym (get_or-append (case_at s j) back 0 i h) ∙ sym (get_or-append-add front (case_at s j ++ back) i 0) ∙ ap (λ (x : List ℕ). get_or x (length front + i) 0) (sym parts)

module _ (s t : List ℕ) (j : ℕ) (l : j < cases_in s) (a : SameButIn s t j) where
  -- what stands in t in the place of case j
  abbrev d : List ℕ
  d = take (length (case_at s j)) (drop (length (front s j l)) t)

  before : (i : ℕ) → i < length (front s j l) + 4 → get_or t i 0 ≡ get_or s i 0
  unfolding start_of
  before = a.front

  after : (i : ℕ) → length (front s j l) + length (case_at s j) ≤ i → get_or t i 0 ≡ get_or s i 0
  unfolding start_of
  after = a.back

  d_long : length d ≡ length (case_at s j)
  d_long = there_long s t (front s j l) (case_at s j) (back s j l) (parts s j l) a.long

  d_is : IsCase d
  d_is =
      let low = case_low (case_at s j) [] (case_is s j l) in
      let same = there_same s t (front s j l) (case_at s j) (back s j l) (parts s j l) a.long in
      kept_case (case_at s j) d (case_is s j l) d_long (λ k m. same k (omega arith) (before (length (front s j l) + k) (omega arith)))

  is_set : t ≡ together (set (cut s).cases j d) ++ (cut s).left
  is_set = three s t (front s j l) (case_at s j) (back s j l) (parts s j l) a.long (λ i m. before i (omega arith)) after ∙ sym (with_case s j l d)

  cut_set : cut t ≡ record { cases = set (cut s).cases j d; left = (cut s).left }
  cut_set = ap cut is_set ∙ cut_onto s (set (cut s).cases j d) (set_each (cut s).cases j d (cut_each s) d_is)

  pub alike_whole : whole t ≡ whole s
  unfolding whole
  alike_whole = ap (λ (p : Parts). eqb (length p.left) 0) cut_set

  pub alike_many : cases_in t ≡ cases_in s
  alike_many = ap (λ (p : Parts). length p.cases) cut_set ∙ length-set (cut s).cases j d

  pub alike_else : (k : ℕ) → (k ≡ j → ⊥) → case_at t k ≡ case_at s k
  unfolding case_at
  alike_else k h = ap (λ (p : Parts). get_or p.cases k []) cut_set ∙ get_or-set_other (cut s).cases j k d [] h

  alike_there : case_at t j ≡ d
  unfolding case_at
  alike_there = ap (λ (p : Parts). get_or p.cases j []) cut_set ∙ get_or-set_same (cut s).cases j d [] l

  -- case j of t is as long, and its bytes are those of t from the same place on
  pub alike_long : length (case_at t j) ≡ length (case_at s j)
  alike_long = ap length alike_there ∙ d_long

  pub alike_byte : (i : ℕ) → i < length (case_at s j) → get_or (case_at t j) i 0 ≡ get_or t (start_of s j + i) 0
  unfolding start_of
  alike_byte i h =
      ap (λ (c : List ℕ). get_or c i 0) alike_there ∙ get_or-take (length (case_at s j)) (drop (length (front s j l)) t) i 0 h
      ∙ get_or-drop (length (front s j l)) t i 0
