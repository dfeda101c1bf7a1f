-- What the code leaves is what `parse` says: the list of the rest in the store, the values on the stack of a frame.
use Rattle.std.specs.Prelude.{◌≡◌, refl, List, [], ◌∷◌, ◌++◌, reverse, true, false, ℕ, zero, suc, ◌+◌, ◌-◌, ◌<◌, ◌≤◌, length, take, drop, replicate}
use Rattle.std.proofs.Common.{sym, ap, subst, ◌∙◌, arith, length-drop, take_all, length-take-le}
use Rattle.std.proofs.lemmas.List.{reverse-append}
use Rattle.std.proofs.Math.Seq.{paste}
use Rattle.cells.specs.Cells.{cells, room, Writes}
use Rattle.cells.specs.CellsLaws.{length_cells}
use Rattle.cells.specs.declared.Cell.{Cell}
use Rattle.machine.specs.Values.{list_at}
use Rattle.machine.specs.Machine.{list, cost, used, parse}
use Rattle.memory.specs.Layout.{Written}
use Rattle.moves.specs.Runs.{Turns, end_of, with_counts, with_stack, pushed, pushed_all, block_top}
use Rattle.moves.specs.Objects.{Stored, made, list_stored}
use Rattle.moves.specs.declared.Running.{Running}
use Rattle.plan.specs.Rest.{Same, Appends}
use Rattle.plan.proofs.Appended.{appends_none, appends_made}
use Rattle.plan.specs.Plans.{taken_count, listed_cells, Enough}
use Rattle.plan.specs.Parsed.{Lists, Pushes, PushesFrom}
use Rattle.plan.specs.declared.Params.{Params}

-- ---- The list of the rest
pub rest_fits : {p : Params} {n a r : ℕ} (at : ℕ) → p.variadic ≡ true → at + listed_cells p a ≤ r → Enough p a → n ≡ a → (p.count ≤ n) × (at + 1 + (n - p.count) ≤ r) × (p.count + (n - p.count) ≤ a)
unfolding listed_cells
rest_fits {p} {n} {a} {r} at on fits enough e = let f : at + (1 + (a - p.count)) ≤ r = rw on at fits in (omega (arith, enough on), omega (arith, enough on), omega (arith, enough on))

pub lists : {p : Params} {at n : ℕ} (args : List ℕ) {old new : List ℕ} → p.variadic ≡ true → at + listed_cells p (room args) ≤ room old → Enough p (room args) → n ≡ room args
    → Writes old (made (cells old) at 129 0 (cells args) p.count (n - p.count)) new → Lists p at (cells args) old new
unfolding parse listed_cells
lists {p} {at} {n} args {old} {new} on fits enough e u =
    let X : List Cell = drop p.count (cells args) in
    let q : take (n - p.count) X ≡ X = take_all (n - p.count) X (simp (length-drop, length_cells) (omega arith)) in
    let f = rest_fits at on fits enough e in
    record {
      stored = λ s o a. rw (on, u.cells)
          (subst (λ (x : List Cell). Stored (s ++ (list x ∷ [])) (made (cells old) at 129 0 (cells args) p.count (n - p.count))) q
          (list_stored (cells args) at p.count (n - p.count) o a (rw length_cells (omega arith)) (rw length_cells f.2)));
      appends = rw on (subst (λ (k : ℕ). Appends at k old new) (omega (arith, length_cells args)) (appends_made at 129 0 p.count (n - p.count) (cells args) f.1 u));
    }

pub lists_none : {p : Params} {at : ℕ} {args : List Cell} {old : List ℕ} → p.variadic ≡ false → Lists p at args old old
unfolding parse listed_cells
lists_none {at = at} {old = old} off = record { stored = λ s o a. rw off o; appends = rw off (appends_none old (omega arith)) }

-- ---- The values on the stack
pub pushes_from : {g : Running} {at n : ℕ} (args : List ℕ) {old new : List ℕ} → n ≤ room args → at ≡ end_of g → Writes old (paste (cells old) at (drop 0 (cells args)) n) new
    → PushesFrom n (cells args) g old (with_counts g.handlers (g.stack + n) g) new
pushes_from {g} {at} {n} args le e u = record {
  registers = refl;
  turns = record {
    top = λ w pre o. rw (u.cells, e) (block_top o (cells args) n (length-take-le n (cells args) (rw length_cells le)));
    rest = u.rest;
    len = u.len;
  };
}

-- two moves, one after the other
pub turns_two : {f k : Written → Written} {g h r : Running} {old mid new : List ℕ} → Turns f g old h mid → Turns k h mid r new → Turns (λ (w : Written). k (f w)) g old r new
turns_two {f} t u = record { top = λ w pre o. u.top (f w) pre (t.top w pre o); rest = u.rest ∙ t.rest; len = u.len ∙ t.len }

-- there is room for each of the two moves of a variadic
pub first_fits : {p : Params} {n r : ℕ} (end : ℕ) → p.variadic ≡ true → end + taken_count p n ≤ r → Enough p n → (end + p.count ≤ r) × (p.count ≤ n)
unfolding taken_count
first_fits {p} {n} {r} end on fits enough = let f : end + (p.count + 1) ≤ r = rw on at fits in (omega arith, enough on)

pub last_fits : {p : Params} {g h : Running} (n : ℕ) {args : List Cell} {live mid : List ℕ} → p.variadic ≡ true → end_of g + taken_count p n ≤ room live → PushesFrom p.count args g live h mid → end_of h < room mid
unfolding taken_count
last_fits {p} {g} n {live = live} on fits u =
    let f : end_of g + (p.count + 1) ≤ room live = rw on at fits in
    omega (arith, ap (λ (k : Running). end_of k) u.registers, u.turns.len)

pub pushes_variadic : {p : Params} {list : ℕ} {args : List Cell} {g h r : Running} {old mid new : List ℕ} → p.variadic ≡ true → PushesFrom p.count args g old h mid
    → r ≡ with_counts h.handlers (h.stack + 1) h → Turns (pushed (list_at list)) h mid r new → Pushes p list args g old r new
unfolding parse taken_count
pushes_variadic {p} {list} {args} {g} {h} {r} {old} {mid} {new} on a q b = record {
  registers = q ∙ ap (λ (k : Running). with_counts k.handlers (k.stack + 1) k) a.registers ∙ rw on (ap (λ (n : ℕ). with_counts g.handlers n g) (omega arith));
  turns = λ s e.
      let X : List Cell = take p.count args in
      let x : reverse (X ++ (list_at (used s) ∷ [])) ≡ list_at list ∷ reverse X = reverse-append X (list_at (used s) ∷ []) ∙ ap (λ (n : ℕ). list_at n ∷ reverse X) (sym e) in
      rw on (subst (λ (l : List Cell). Turns (λ (w : Written). with_stack (l ++ w.stack) w) g old r new) (sym x) (turns_two a.turns b));
}

pub pushes_all : {p : Params} {list n : ℕ} {g r : Running} {old new : List ℕ} (args : List ℕ) → p.variadic ≡ false → n ≡ room args → PushesFrom n (cells args) g old r new → Pushes p list (cells args) g old r new
unfolding parse taken_count
pushes_all {p} {list} {n} {g} {r} {old} {new} args off e a =
    let m : length (cells args) ≡ n = length_cells args ∙ sym e in
    record {
      registers = a.registers ∙ rw off (ap (λ (k : ℕ). with_counts g.handlers (g.stack + k) g) (sym m));
      turns = λ s q. rw off (subst (λ (x : List Cell). Turns (pushed_all x) g old r new) (take_all n (cells args) (omega arith)) a.turns);
    }

-- there is room for all of them
pub all_fits : (p : Params) {m n r : ℕ} (end : ℕ) → p.variadic ≡ false → end + taken_count p n ≤ r → m ≡ n → (end + m ≤ r) × (m ≤ n)
unfolding taken_count
all_fits p {m} {n} {r} end off fits e = let f : end + n ≤ r = rw off at fits in (omega arith, omega arith)

-- the list may stand at any handle: some store ends there
used_lists : (n : ℕ) → used (replicate n (list [])) ≡ n
unfolding used cost
used_lists zero = refl
used_lists (suc n) = omega (arith, used_lists n)

-- no byte behind the cells changes
pub pushes_same : {p : Params} {list : ℕ} {args : List Cell} {g r : Running} {old new : List ℕ} → Pushes p list args g old r new → Same old new
pushes_same {list = n} u = let t = u.turns (replicate n (list [])) (sym (used_lists n)) in record { rest = t.rest; len = t.len }
