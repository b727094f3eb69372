-- A case of kind 2 and the same facts of kind 1 (RULE R12.9) of every two calls: what specs/Kinds.antt says of the definitions.
use Rattle.std.specs.Prelude.{ℕ, ◌≡◌, true, false, List, length}
use Rattle.std.proofs.Common.{sym, ap, ◌∙◌}
use contract.Lifetimes.{Lfts}
use Rattle.std.specs.Borrow.{Bor, MutBor}
use Rattle.wire.specs.Laid.{laid}
use Rattle.wire.specs.Numbers.{AreBytes}
use Rattle.record.specs.Record.{facts_of, record_bytes}
use Rattle.cases.specs.Cases.{reading_of}
use Rattle.theory.specs.Theory.{too_wide}
use Rattle.answer.specs.Answer.{case_of}
use Rattle.answer.proofs as answer
use Rattle.desk.proofs as desk
use Rattle.kinds.specs.Recast.{as_kind_one, without_quotes}
use Rattle.demands.specs.Demand2.{Said}
use Rattle.demands.specs.Kinds.{narrow_answered, wide_answered}

-- So every two calls of `rule_case`, or of `desk_rule_case`, on such cases with as much room: the same number, and the same bytes are written.
module _ (κs κs' : Lfts 2) (s s' t t' : Bor (List ℕ)) (out out' o o' : MutBor (List ℕ)) (n m : ℕ) (small : AreBytes s.now) (good : (reading_of s.now).refusal ≡ 0)
    (room : length out.now ≡ length o.now) where
  abbrev SameCalls : Type 0
  SameCalls = (m ≡ n) × ((a : List ℕ) × (out'.now ≡ laid a out.now) × (o'.now ≡ laid a o.now))

  same_said : ((k : ℕ) → case_of t.now k ≡ case_of s.now k)
      → Said (case_of s.now (length out.now)).0 (case_of s.now (length out.now)).1 n out.now out'.now
      → Said (case_of t.now (length o.now)).0 (case_of t.now (length o.now)).1 m o.now o'.now → SameCalls
  same_said same p q =
      let e : case_of t.now (length o.now) ≡ case_of s.now (length out.now) = same (length o.now) ∙ ap (case_of s.now) (sym room) in (
        q.0 ∙ ap (λ (x : ℕ × List ℕ). x.0) e ∙ sym p.0,
        ((case_of s.now (length out.now)).1, p.1, q.1 ∙ ap (λ (x : ℕ × List ℕ). laid x.1 o.now) e),
      )

  -- where the quotes can be trusted: the same facts of kind 1
  abbrev Narrow : Type 0
  Narrow = (too_wide (facts_of s.now).form (facts_of s.now).market ≡ false) × (t.now ≡ record_bytes (as_kind_one (facts_of s.now)))

  narrow_case_lem : Narrow → (k : ℕ) → case_of t.now k ≡ case_of s.now k
  narrow_case_lem h k = ap (λ (c : List ℕ). case_of c k) h.1 ∙ (narrow_answered s.now small good h.0).1 k

  pub rule_case_narrow : Narrow → answer.rule_case.Reads.Post κs (s, (out, tt)) n (s', (out', tt)) → answer.rule_case.Reads.Post κs' (t, (o, tt)) m (t', (o', tt)) → SameCalls
  rule_case_narrow h = same_said (narrow_case_lem h)

  pub desk_rule_case_narrow : Narrow → desk.desk_rule_case.Reads.Post κs (s, (out, tt)) n (s', (out', tt))
      → desk.desk_rule_case.Reads.Post κs' (t, (o, tt)) m (t', (o', tt)) → SameCalls
  desk_rule_case_narrow h = same_said (narrow_case_lem h)

  -- where they can't: these facts without their quotes
  abbrev Bare : Type 0
  Bare = (too_wide (facts_of s.now).form (facts_of s.now).market ≡ true) × (t.now ≡ record_bytes (without_quotes (facts_of s.now)))

  wide_case : Bare → (k : ℕ) → case_of t.now k ≡ case_of s.now k
  wide_case h k = ap (λ (c : List ℕ). case_of c k) h.1 ∙ (wide_answered s.now small good h.0).1 k

  pub rule_case_wide : Bare → answer.rule_case.Reads.Post κs (s, (out, tt)) n (s', (out', tt)) → answer.rule_case.Reads.Post κs' (t, (o, tt)) m (t', (o', tt)) → SameCalls
  rule_case_wide h = same_said (wide_case h)

  pub desk_rule_case_wide : Bare → desk.desk_rule_case.Reads.Post κs (s, (out, tt)) n (s', (out', tt))
      → desk.desk_rule_case.Reads.Post κs' (t, (o, tt)) m (t', (o', tt)) → SameCalls
  desk_rule_case_wide h = same_said (wide_case h)
