-- The rules of a code, tested by its counts.
use Rattle.std.specs.Prelude.{◌≡◌, Bool, true, false, ℕ, ◌+◌, ◌-◌, ◌<◌, ◌≤◌, List, length, get_or}
use Rattle.std.proofs.Math.Path.{refl, sym, ap}
use Rattle.std.proofs.Common.{◌∙◌, leb-true}
use Rattle.image.specs.Records.{both}
use Rattle.image.specs.Program.{Code, all, tab, no_op, no_code, opcode_fine, last_fine, constant_fine, capture_fine, counts_fine, code_fine, program_fine}
use Rattle.image.proofs.Parts.{first, second, length_tab, tab_at}
use Rattle.image.specs.Layout.{field, opcode_at, code_at}
use Rattle.image.specs.declared.Op.{Op}
use Rattle.image.specs.declared.Capture.{Capture}
use Rattle.reader.specs.declared.Counts.{Counts}
use Rattle.program.specs.Parts.{tab_past}
use Rattle.reader.specs.Rules.{counted, IsCounts, globals_fine, captures_fine, inner_fine, own_fine}
use Rattle.reader.specs.Every.{every, all_same, all_tab}
use Rattle.reader.specs.CountsLaws.{opcode_same, counts_same, capture_same, counts_are}

-- ---- n are the counts of code k
module _ {image rows : List ℕ} {k : ℕ} {n : Counts} (w : IsCounts image rows k n) (constants inner : List ℕ) where
  abbrev c : Code
  c = code_at image rows constants inner k

  pub counts_counted : counts_fine (counted n) ≡ counts_fine c
  counts_counted = ap (λ (m : Counts). counts_fine (counted m)) (w.of constants inner) ∙ counts_same c

  pub opcode_counted : (o : Op) → opcode_fine (counted n) o ≡ opcode_fine c o
  opcode_counted o = ap (λ (m : Counts). opcode_fine (counted m) o) (w.of constants inner) ∙ opcode_same c o

  pub capture_counted : (x : Capture) → capture_fine (counted n) x ≡ capture_fine c x
  capture_counted x = ap (λ (m : Counts). capture_fine (counted m) x) (w.of constants inner) ∙ capture_same c x

  pub captures_counted : (l : List Capture) → all (capture_fine (counted n)) l ≡ all (capture_fine c) l
  captures_counted l = all_same _ _ l capture_counted

pub some_opcodes : (n : Counts) {t : Bool} → t ≡ counts_fine (counted n) → t ≡ true → 1 ≤ n.opcodes
some_opcodes n e h = leb-true 1 n.opcodes (first _ _ (second _ _ (second _ _ (second _ _ (sym (counts_are n) ∙ sym e ∙ h)))))

-- the last opcode of code k, where there is one
pub last_of : (image rows constants inner : List ℕ) (k : ℕ) {m : ℕ} {o : Op} → m ≡ field rows k 1 → 1 ≤ m → o ≡ get_or (code_at image rows constants inner k).opcodes (m - 1) no_op
    → last_fine o ≡ last_fine (get_or (code_at image rows constants inner k).opcodes (length (code_at image rows constants inner k).opcodes - 1) no_op)
last_of image rows constants inner k e h q =
    ap last_fine (q ∙ ap (λ (i : ℕ). get_or (code_at image rows constants inner k).opcodes (i - 1) no_op) (e ∙ sym (length_tab (field rows k 1) (opcode_at image (field rows k 0 + 14)))))

pub program_is : (image : List ℕ) (codes : ℕ) (f : ℕ → Code) {t : Bool} → t ≡ every codes (λ (k : ℕ). code_fine image (tab codes f) (f k)) → t ≡ program_fine image (tab codes f)
unfolding program_fine
program_is image codes f e = e ∙ sym (all_tab _ codes f)

-- the captures of code k, if there is one
module _ (codes : ℕ) (f : ℕ → Code) (outer : Code) (k : ℕ) where
  pub inner_past : codes ≤ k → true ≡ inner_fine (tab codes f) outer k
  unfolding all
  inner_past h = ap (λ (c : Code). captures_fine outer c) (sym (tab_past codes f k no_code h))

  pub inner_there : k < codes → {t : Bool} → t ≡ captures_fine outer (f k) → t ≡ inner_fine (tab codes f) outer k
  inner_there h e = e ∙ ap (captures_fine outer) (sym (tab_at codes f k no_code h))

regroup : (a b c d x y : Bool) → both a (both b (both c (both d (both x y)))) ≡ both (both a (both b (both c d))) (both x y)
unfolding both
regroup false b c d x y = refl
regroup true false c d x y = refl
regroup true true false d x y = refl
regroup true true true false x y = refl
regroup true true true true x y = refl

pub code_is : (image : List ℕ) (p : List Code) (c : Code) → code_fine image p c ≡ both (own_fine c) (both (all (constant_fine image (length c.codes)) c.constants) (all (inner_fine p c) c.codes))
unfolding code_fine
code_is image p c = regroup _ _ _ _ _ _

chained : (a b c g : Bool) {u : Bool} → a ≡ true → u ≡ both b c → both a (both b (both c g)) ≡ both u g
unfolding both
chained a b c g e f = rw (e, f) (grouped b)
  where
    grouped : (b : Bool) → both b (both c g) ≡ both (both b c) g
    grouped true = refl
    grouped false = refl

-- the counts are fine: the opcodes and the last of them are tested, then the globals
module _ {image rows : List ℕ} {k : ℕ} {n : Counts} (w : IsCounts image rows k n) (constants inner : List ℕ) {t : Bool} (e : t ≡ counts_fine (counted n)) (y : t ≡ true) where
  abbrev d : Code
  d = code_at image rows constants inner k

  abbrev last : Bool
  last = last_fine (get_or d.opcodes (length d.opcodes - 1) no_op)

  module _ {a u : Bool} (f : a ≡ all (opcode_fine d) d.opcodes) where
    pub opcodes_then : a ≡ true → {o : Op} → o ≡ get_or d.opcodes (n.opcodes - 1) no_op → u ≡ last_fine o → u ≡ both (all (opcode_fine d) d.opcodes) last
    unfolding both
    opcodes_then h q v = rw (sym f ∙ h) (v ∙ last_of image rows constants inner k (ap (λ (m : Counts). m.opcodes) w.is) (some_opcodes n e y) q)

    pub opcodes_else : a ≡ false → u ≡ a → u ≡ both (all (opcode_fine d) d.opcodes) last
    unfolding both
    opcodes_else h v = rw (sym f ∙ h) (v ∙ h)

  module _ {u : Bool} (f : u ≡ both (all (opcode_fine d) d.opcodes) last) where
    own_is : own_fine d ≡ both u (globals_fine d.globals)
    own_is = chained _ _ _ _ (sym (counts_counted w constants inner) ∙ sym e ∙ y) f

    pub own_more : u ≡ true → {v : Bool} → v ≡ globals_fine d.globals → v ≡ own_fine d
    unfolding both
    own_more h g = rw own_is (rw h g)

    pub own_not : u ≡ false → u ≡ own_fine d
    unfolding both
    own_not h = rw own_is (rw h refl)
