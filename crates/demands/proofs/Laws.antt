-- A sheet in another order (RULE R12.4) of every two calls: what `reordering` in specs/Laws.antt says of the definitions.
use Rattle.std.specs.Prelude.{ℕ, ◌≡◌, length}
use Rattle.std.proofs.Common.{sym, ap, ◌∙◌}
use mathlib.Core.List.{List}
use contract.Lifetimes.{Lfts}
use Rattle.std.specs.Borrow.{Bor, MutBor}
use Rattle.wire.specs.Laid.{laid, row}
use Rattle.sheet.specs.declared.SheetAnswer.{SheetAnswer}
use Rattle.sheet.specs.Sheet.{cases_in, entry_of, sheet_of}
use Rattle.order.specs.Order.{Reordered, in_order}
use Rattle.sheet.proofs as sheet
use Rattle.sheet.proofs.Whole.{each_by_itself}
use Rattle.desk.specs.declared.DeskSheet.{DeskSheet}
use Rattle.desk.specs.Desk.{desk_sheet}
use Rattle.desk.proofs as desk
use Rattle.demands.specs.Demand2.{Said}
use Rattle.demands.specs.Laws.{reordering}

-- So every two calls of `rule_sheet`, or of `desk_rule_sheet`, on such sheets with as much room.
module _ (σ : ℕ → ℕ) (κs κs' : Lfts 2) (s s' t t' : Bor (List ℕ)) (out out' o o' : MutBor (List ℕ)) (a : Reordered σ s.now t.now) (room : length out.now ≡ length o.now) where
  -- for s its judgements in its own order, for t the same in t's
  abbrev Written : Type 0
  Written = (out'.now ≡ laid (row (entry_of s.now) (cases_in s.now)) out.now) × (o'.now ≡ laid (in_order σ s.now) o.now)

  -- whatever of the answer a caller is told
  sheets_said : {A : Type 0} (view : SheetAnswer → A) (r q : A)
      → Said (view (sheet_of s.now (length out.now)).0) (sheet_of s.now (length out.now)).1 r out.now out'.now
      → Said (view (sheet_of t.now (length o.now)).0) (sheet_of t.now (length o.now)).1 q o.now o'.now
      → (q ≡ r) × ((sheet_of t.now (length o.now)).0.refusal ≡ 0 → Written)
  sheets_said {A} view r q p u =
      let d = reordering σ s.now t.now (length o.now) a in
      let same : (sheet_of t.now (length o.now)).0 ≡ (sheet_of s.now (length out.now)).0 = d.0 ∙ ap (λ (n : ℕ). (sheet_of s.now n).0) (sym room) in (
        u.0 ∙ ap view same ∙ sym p.0,
        λ e. (
          p.1 ∙ ap (λ (w : List ℕ). laid w out.now) (each_by_itself s.now (length out.now) (ap (λ (x : SheetAnswer). x.refusal) (sym same) ∙ e)),
          u.1 ∙ ap (λ (w : List ℕ). laid w o.now) (d.1 e),
        ),
      )

  pub rule_sheet_reordered : (r q : SheetAnswer) → sheet.rule_sheet.Reads.Post κs (s, (out, tt)) r (s', (out', tt))
      → sheet.rule_sheet.Reads.Post κs' (t, (o, tt)) q (t', (o', tt))
      → (q ≡ r) × (q.refusal ≡ 0 → Written)
  rule_sheet_reordered r q p u = let d = sheets_said (λ a. a) r q p u in (d.0, λ e. d.1 (ap (λ (x : SheetAnswer). x.refusal) (sym u.0) ∙ e))

  pub desk_rule_sheet_reordered : (r q : DeskSheet) → desk.desk_rule_sheet.Reads.Post κs (s, (out, tt)) r (s', (out', tt))
      → desk.desk_rule_sheet.Reads.Post κs' (t, (o, tt)) q (t', (o', tt))
      → (q ≡ r) × (q.refusal ≡ 0 → Written)
  desk_rule_sheet_reordered r q p u = let d = sheets_said desk_sheet r q p u in (d.0, λ e. d.1 (ap (λ (x : DeskSheet). x.refusal) (sym u.0) ∙ e))
