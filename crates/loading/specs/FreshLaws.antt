-- Cells that are written one after the other.
use Rattle.std.specs.Prelude.{◌≡◌, List, [], ◌++◌, ◌∷◌, ℕ, ◌+◌, ◌≤◌, suc, length, get_or, set, take, drop, replicate}
use Rattle.std.proofs.Common.{ap, ◌∙◌, append-nil, arith, drop_of_length-le, take_all}
use Rattle.std.proofs.lemmas.List.{length-replicate}
use Rattle.std.proofs.Math.Seq.{paste}
use Rattle.cells.specs.Cells.{null, cells, Writes, room}
use Rattle.cells.specs.CellsLaws.{length_cells}
use Rattle.cells.specs.declared.Cell.{Cell}
use Rattle.machine.specs.Values.{cell}
use Rattle.loading.specs.Fresh.{headed, cleared, fresh_store, fresh_state}

-- one write, then another
pub then_writes : {s t u : List ℕ} {l : List Cell} → Writes s l t → (f : List Cell → List Cell) → Writes t (f (cells t)) u → Writes s (f l) u
then_writes a f b = record { cells = b.cells ∙ ap f a.cells; rest = b.rest ∙ a.rest; len = b.len ∙ a.len }

all_null : (n : ℕ) → take n (replicate n null) ≡ replicate n null
all_null n = take_all n (replicate n null) (omega (arith, length-replicate n null))

-- a store of at least so many cells, a state block of exactly as many
fresh_cells : (n : ℕ) (h : Cell) (l : List Cell) → 1 + n ≤ length l → paste (set l 0 h) 1 (replicate n null) n ≡ h ∷ (replicate n null ++ drop (1 + n) l)
fresh_cells n h [] k = absurd (omega arith)
fresh_cells n h (x ∷ l) k =
    ap (λ (r : List Cell). h ∷ (r ++ drop (1 + n) (h ∷ l))) (all_null n) ∙ ap (λ (r : List Cell). h ∷ (replicate n null ++ r)) (behind h x)
  where
    behind : (a b : Cell) → drop (1 + n) (a ∷ l) ≡ drop (1 + n) (b ∷ l)
    behind a b = let e : 1 + n ≡ suc n = omega arith in rw e

fresh_block : (n : ℕ) (a b : Cell) (l : List Cell) → length l ≡ 2 + n → paste (set (set l 0 a) 1 b) 2 (replicate n null) n ≡ a ∷ b ∷ replicate n null
fresh_block n a b [] k = absurd (omega arith)
fresh_block n a b (x ∷ []) k = absurd (omega arith)
fresh_block n a b (x ∷ y ∷ l) k =
    ap (λ (r : List Cell). a ∷ b ∷ (r ++ drop (2 + n) (a ∷ b ∷ l))) (all_null n) ∙ ap (λ (r : List Cell). a ∷ b ∷ (replicate n null ++ r)) (drop_of_length-le (a ∷ b ∷ l) {i = 2 + n} (omega arith))
    ∙ ap (λ (r : List Cell). a ∷ b ∷ r) (append-nil (replicate n null))

-- ---- The head of a state block is written
pub head_writes : {state t u : List ℕ} (n : ℕ) → Writes state (set (cells state) 0 (cell 1 0 n)) t → Writes t (set (cells t) 1 (cell 64 0 0)) u → Writes state (headed n (cells state)) u
head_writes n a b = then_writes a (λ (l : List Cell). set l 1 (cell 64 0 0)) b

-- ---- The loaded world is written
module _ {store t u : List ℕ} (n : ℕ) (k : 1 + n ≤ room store) where
  pub fresh_store_lem : {h : Cell} → h ≡ cell 128 0 n → Writes store (set (cells store) 0 h) t → Writes t (paste (cells t) 1 (replicate n null) n) u → Writes store (fresh_store n ++ drop (1 + n) (cells store)) u
  fresh_store_lem e a b =
      let w = then_writes (rw e at a) (λ (l : List Cell). paste l 1 (replicate n null) n) b in
      record { cells = w.cells ∙ fresh_cells n (cell 128 0 n) (cells store) (omega (arith, length_cells store)); rest = w.rest; len = w.len }

module _ {state t u : List ℕ} (n : ℕ) (k : length state ≡ 8256) where
  pub fresh_state_lem : Writes state (headed (1 + n) (cells state)) t → Writes t (paste (cells t) 2 (replicate 514 null) 514) u → Writes state (fresh_state n) u
  fresh_state_lem a b =
      let w = then_writes a (λ (l : List Cell). paste l 2 (replicate 514 null) 514) b in
      record { cells = w.cells ∙ fresh_block 514 (cell 1 0 (1 + n)) (cell 64 0 0) (cells state) (length_cells state ∙ omega arith); rest = w.rest; len = w.len }

-- ---- Frames, result, wait and slice are dropped
pub clears_all : {state a b c : List ℕ} {used : ℕ} → used ≡ (get_or (cells state) 0 null).payload → Writes state (headed used (cells state)) a
    → Writes a (set (cells a) 2 null) b → Writes b (set (cells b) 3 null) c → Writes state (cleared (cells state)) c
clears_all e p q r = rw (← e) (then_writes (then_writes p (λ (l : List Cell). set l 2 null) q) (λ (l : List Cell). set l 3 null) r)
