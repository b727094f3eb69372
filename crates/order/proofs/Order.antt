-- Reordering a sheet only reorders the answers and the indexes, and the counts stay.
use Prim.Native.Nat.{ℕ, zero, suc, ◌+◌}
use mathlib.Core.Path.{◌≡◌, refl, sym, ap, ◌∙◌}
use mathlib.Core.Bool.{true}
use mathlib.Core.List.{List, [], Permᴰ}
use lib.ListN.{length, get_or}
use Rattle.wire.specs.Laid.{row}
use Rattle.wire.proofs.Rows.{row_same}
use Rattle.cases.specs.Cases.{reading_of}
use Rattle.cut.specs.Cut.{cut, together, AllCases}
use Rattle.cut.proofs.Cut.{cut_each}
use Rattle.cut.proofs.Laws.{whole_joins, back_whole, back_cases}
use Rattle.cut.proofs.Order.{perm_each, perm_long, placed}
use Rattle.sheet.specs.Sheet.{whole, case_at, cases_in, entry_bytes, ruled_one, entry_of, ruled_in, whole_cases, sheet_of}
use Rattle.order.specs.Order.{Reordered, in_order}
use Rattle.order.proofs.Sums.{sum, sum_same, sum_order}
use Rattle.sheet.proofs.Whole.{same_answer, each_by_itself}

-- what a case counts
abbrev counts : List ℕ → ℕ → ℕ
counts s k = ruled_one (reading_of (case_at s k))

ruled_sum : (s : List ℕ) (n : ℕ) → ruled_in s n ≡ sum (counts s) n
unfolding ruled_in sum
ruled_sum s zero = refl
ruled_sum s (suc n) = ap (λ (m : ℕ). m + counts s n) (ruled_sum s n)

module _ (σ : ℕ → ℕ) (s t : List ℕ) (a : Reordered σ s t) where
  same_ruled : ruled_in s (cases_in s) ≡ ruled_in t (cases_in s)
  same_ruled =
      ruled_sum s (cases_in s)
      ∙ sym (sum_order (cases_in s) (counts s) σ a.within a.apart)
      ∙ sum_same (λ k. counts s (σ k)) (counts t) (cases_in s) (λ k l. ap (λ (c : List ℕ). ruled_one (reading_of c)) (sym (a.same k l)))
      ∙ sym (ruled_sum t (cases_in s))

  -- the same counts, whatever the room
  pub reordered_answer : (room : ℕ) → (sheet_of t room).0 ≡ (sheet_of s room).0
  reordered_answer room = same_answer s t room a.alike a.many same_ruled

  -- and the judgements of s in the order of t, each with its new index
  pub reordered_bytes : (room : ℕ) → (sheet_of t room).0.refusal ≡ 0 → (sheet_of t room).1 ≡ in_order σ s
  reordered_bytes room e =
      each_by_itself t room e
      ∙ ap (row (entry_of t)) a.many
      ∙ row_same (entry_of t) (λ k. entry_bytes k (reading_of (case_at s (σ k)))) (cases_in s) (λ k l. ap (λ (c : List ℕ). entry_bytes k (reading_of c)) (a.same k l))

-- ---- the cases of a whole sheet, put one after the other in any order: each has its place
module _ (s : List ℕ) (ds : List (List ℕ)) (is : whole s ≡ true) (p : Permᴰ (cut s).cases ds) where
  each : AllCases ds
  each = perm_each p (cut_each s)

  cases : (cut (together ds)).cases ≡ ds
  cases = back_cases ds each

  long : length (together ds) ≡ length s
  long = sym (perm_long p) ∙ ap length (whole_joins s is)

  taken_alike : whole_cases (together ds) ≡ whole_cases s
  unfolding whole_cases
  taken_alike = rw (back_whole ds each, is, long)

  pub any_order : (σ : ℕ → ℕ) × Reordered σ s (together ds)
  unfolding case_at
  any_order =
      let q = placed p in (
        q.place,
        record {
          alike = taken_alike;
          many = ap length cases ∙ sym q.many;
          within = q.inside;
          apart = λ k l _ _ e. q.apart k l e;
          same = λ k _. ap (λ (cs : List (List ℕ)). get_or cs k []) cases ∙ q.same k;
        },
      )
