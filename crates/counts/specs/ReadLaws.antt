-- What the code reads and adds up is what the numbers of a plan say.
use Rattle.std.specs.Prelude.{◌≡◌, List, Bool, ℕ, ◌+◌, ◌-◌, ◌<◌, ◌≤◌, length, get_or, drop}
use Rattle.std.proofs.Math.Path.{refl}
use Rattle.std.proofs.Common.{ap, ◌∙◌}
use Rattle.std.proofs.Math.Bool.{true, false}
use native.Mathlib.Omega.{arith}
use Rattle.cells.specs.Cells.{null}
use Rattle.cells.specs.declared.Cell.{Cell}
use Rattle.image.specs.Records.{if?}
use Rattle.memory.specs.View.{frames_size}
use Rattle.moves.specs.Runs.{end_of}
use Rattle.moves.specs.Frames.{kept_in}
use Rattle.moves.specs.Objects.{last_of}
use Rattle.moves.specs.declared.Running.{Running}
use Rattle.plan.specs.Plans.{taken_count, listed_cells, Enough}
use Rattle.plan.specs.declared.Counts.{Counts}
use Rattle.plan.specs.declared.Params.{Params}
use Rattle.counts.specs.Counted.{started_counts, resumed_counts, handled_counts, received_counts, Resumable, Handleable, Receivable}

-- ---- Parsed arguments
module _ (p : Params) (n : ℕ) where
  pub taken_some : p.variadic ≡ true → p.count + 1 ≡ taken_count p n
  unfolding taken_count
  taken_some e = rw e refl

  pub taken_all : p.variadic ≡ false → n ≡ taken_count p n
  unfolding taken_count
  taken_all e = rw e refl

  pub listed_some : p.variadic ≡ true → 1 + (n - p.count) ≡ listed_cells p n
  unfolding listed_cells
  listed_some e = rw e refl

  pub listed_none : p.variadic ≡ false → 0 ≡ listed_cells p n
  unfolding listed_cells
  listed_none e = rw e refl

  -- at most one more than there are
  pub taken_few : Enough p n → taken_count p n ≤ n + 1
  unfolding taken_count
  taken_few h = by p.variadic h
    where
      by : (b : Bool) → (b ≡ true → p.count ≤ n) → if? b (p.count + 1) n ≤ n + 1
      by true h = omega (arith, h refl)
      by false h = omega arith

  pub listed_few : listed_cells p n ≤ n + 1
  unfolding listed_cells
  listed_few = by p.variadic
    where
      by : (b : Bool) → if? b (1 + (n - p.count)) 0 ≤ n + 1
      by true = omega arith
      by false = omega arith

  pub started_by : (c : Counts) (locals : ℕ) {a b : ℕ} → a ≡ taken_count p n → b ≡ listed_cells p n
      → ◌≡◌ {A = Counts} (record { frames = c.frames + 1; live = c.live + 6 + locals + a; store = c.store + b }) (started_counts c locals p n)
  started_by c locals q k = λ j. record { frames = c.frames + 1; live = c.live + 6 + locals + q j; store = c.store + k j }

-- ---- A frame in memory: what is added up of it ends inside
kept_inside : (L : List Cell) (b : ℕ) {g : Running} → g ≡ kept_in L b → end_of (kept_in L b) ≤ length L → b + 6 + g.locals + g.stack ≤ length L
kept_inside L b q le = omega (arith, ap (λ (k : Running). end_of k) q, ap (λ (k : Running). k.base) q)

pub handled_inside : {c : Counts} {i n : ℕ} {L : List Cell} {starts : List ℕ} {g : Running} → Handleable c i n L starts → g ≡ kept_in L (get_or starts i 0) → get_or starts i 0 + 6 + g.locals + g.stack < 4294967296
handled_inside {i = i} {L = L} {starts} r q = omega (arith, kept_inside L (get_or starts i 0) q r.opens, r.few)

pub received_inside : {c : Counts} {L : List Cell} {starts : List ℕ} {g : Running} → Receivable c L starts → g ≡ kept_in L (get_or starts (c.frames - 1) 0) → get_or starts (c.frames - 1) 0 + 6 + g.locals + g.stack < 4294967296
received_inside {c} {L} {starts} r q = omega (arith, kept_inside L (get_or starts (c.frames - 1) 0) q r.opens, r.few)

pub handled_by : (c : Counts) (i : ℕ) (p : Params) (n : ℕ) (L : List Cell) (starts : List ℕ) {g : Running} {a b : ℕ} → g ≡ kept_in L (get_or starts i 0) → a ≡ taken_count p n → b ≡ listed_cells p n
    → ◌≡◌ {A = Counts} (record { frames = i + 1; live = get_or starts i 0 + 6 + g.locals + g.stack + 2 + a; store = c.store + 1 + (c.live - get_or starts (i + 1) 0) + b }) (handled_counts c i p n L starts)
handled_by c i p n L starts q t l = λ j. record {
  frames = i + 1;
  live = get_or starts i 0 + 6 + (q j).locals + (q j).stack + 2 + t j;
  store = c.store + 1 + (c.live - get_or starts (i + 1) 0) + l j;
}

pub received_by : (c : Counts) (L : List Cell) (starts : List ℕ) {g : Running} → g ≡ kept_in L (get_or starts (c.frames - 1) 0)
    → ◌≡◌ {A = Counts} (record { frames = c.frames; live = get_or starts (c.frames - 1) 0 + 6 + g.locals + g.stack + 1; store = c.store }) (received_counts c L starts)
received_by c L starts q = λ j. record { frames = c.frames; live = get_or starts (c.frames - 1) 0 + 6 + (q j).locals + (q j).stack + 1; store = c.store }

-- ---- A continuation: its count, where its last frame begins, what that keeps, where it ends
module _ {c : Counts} {h : ℕ} {S : List Cell} (r : Resumable c h S) where
  module _ {count : ℕ} (q : count ≡ (get_or S h null).number) where
    pub walk_fits : (0 < count) × (h + 1 + frames_size (count - 1) (drop (h + 1) S) ≤ length S)
    walk_fits = rw q (r.some, omega (arith, r.opens))

    module _ {last : ℕ} (l : last ≡ h + 1 + frames_size (count - 1) (drop (h + 1) S)) where
      last_is : last ≡ last_of h S
      last_is = rw q at l

      pub open_fits : last + 6 ≤ length S
      open_fits = omega (arith, last_is, r.opens)

      module _ {g : Running} (k : g ≡ kept_in S last) where
        end_is : end_of g ≡ end_of (kept_in S (last_of h S))
        end_is = ap (λ (x : Running). end_of x) (rw last_is at k)

        pub end_fits : (h + 1 ≤ end_of g) × (end_of g < 4294967296)
        end_fits = (omega (arith, end_is, r.behind), omega (arith, end_is, r.inside, r.few))

        pub resumed_by : {e : ℕ} → e ≡ end_of g → ◌≡◌ {A = Counts} (record { frames = c.frames + count; live = c.live + (e - (h + 1)) + 1; store = c.store }) (resumed_counts c h S)
        resumed_by w = λ j. record { frames = c.frames + q j; live = c.live + ((w ∙ end_is) j - (h + 1)) + 1; store = c.store }
