use Rattle.std.proofs.Common.{◌≡◌, ℕ, ◌+◌, ◌-◌, ◌%◌, ◌<◌, ◌≤◌, List, length, take, drop, replicate, sym, refl, ◌∙◌}
use Rattle.std.proofs.Common.{mod-lt, arith}
use native.Mathlib.Nat.{mod-le}
use Rattle.flash.specs.Board.{Sized}
use Rattle.flash.specs.Buf.{addr_of}
use Rattle.flash.specs.Finish.{act_of, state_after, array_after, block_size, patch, ands}
use Rattle.flash.specs.declared.Act.{Act}
use Rattle.flash.specs.declared.Act.TheVariants.{Nothing, Enable, Disable, Program, Erase, EraseAll}
use Rattle.flash.specs.declared.Block.{Block}
use Rattle.flash.specs.declared.Chip.{Chip}
use Rattle.flash.specs.declared.Trans.{Trans}
use Rattle.flash.proofs.Laws.{page_in, block_in, block_pos}
use Rattle.flash.proofs.finish.finish.Goals as goal

arm : (s : Chip) (pg m : List ℕ) (x : Act) {m' : List ℕ} {r : Chip} {a : Act} → a ≡ act_of s.mode s.wel s.tx
    → a ≡ x → r ≡ state_after x s → m' ≡ array_after x s.tx pg m
    → (r ≡ state_after (act_of s.mode s.wel s.tx) s) × (m' ≡ array_after (act_of s.mode s.wel s.tx)
    s.tx pg m)
arm s pg m x p q u v =
    let e : act_of s.mode s.wel s.tx ≡ x = sym p ∙ q in
    (rw e u, rw e v)

addr_lt : (t : Trans) (n a : ℕ) → Sized n → a ≡ addr_of t n → a < n
addr_lt t n a s e = rw e (mod-lt _ (omega arith))

program_array : (t : Trans) (pg m m' : List ℕ) (a : ℕ) → a ≡ addr_of t (length m)
    → m' ≡ patch m (a - a % 256) 256 (ands (take 256 (drop (a - a % 256) m)) pg) → m' ≡ array_after Program t pg m
program_array t pg m m' a e h = h ∙ rw e

erase_array : (b : Block) (t : Trans) (pg m m' : List ℕ) (a k : ℕ) → a ≡ addr_of t (length m) → k ≡ block_size b
    → m' ≡ patch m (a - a % k) k (replicate k 0xFF) → m' ≡ array_after (Erase b) t pg m
erase_array b t pg m m' a k e f h = h ∙ rw (e, f)

-- a block that an address below n lies in
fits_block : (b : Block) (t : Trans) (n a k : ℕ) → Sized n → a ≡ addr_of t n → k ≡ block_size b → a - a % k + k ≤ n
fits_block b t n a k s e f = rw f (block_in b n a s (addr_lt t n a s e))

pub program_page-requires : goal.program_page-requires
program_page-requires c =
    let at_address = c.address-at in
    let at_pre = c.requires in
    let a = c.args in
    let n = length a.array.now in
    page_in n at_address.result at_pre (addr_lt a.chip.tx n _ at_pre at_address.ensures)

pub nonzero_rem-start-in-Erase : goal.nonzero_rem-start-in-Erase
nonzero_rem-start-in-Erase c = rw c.size_of-size.ensures (block_pos c.in-Erase.block)

pub overflow_sub-start-in-Erase : goal.overflow_sub-start-in-Erase
overflow_sub-start-in-Erase c = mod-le _ _

pub erase_block-requires : goal.erase_block-requires
erase_block-requires c =
    let at_address = c.address-at in
    let at_size_of = c.size_of-size in
    let at_pre = c.requires in
    let a = c.args in
    fits_block c.in-Erase.block a.chip.tx (length a.array.now) at_address.result
    at_size_of.result at_pre at_address.ensures
    at_size_of.ensures

pub returns-in-Nothing : goal.returns-in-Nothing
returns-in-Nothing c =
    let a = c.args in
    arm a.chip a.page.now a.array.now Nothing c.decide-act.ensures
    c.in-Nothing.is refl refl

pub returns-in-Enable : goal.returns-in-Enable
returns-in-Enable c =
    let at_decide = c.decide-act in
    let a = c.args in
    arm a.chip a.page.now a.array.now Enable at_decide.ensures c.in-Enable.is
    refl refl

pub returns-in-Disable : goal.returns-in-Disable
returns-in-Disable c =
    let at_decide = c.decide-act in
    let a = c.args in
    arm a.chip a.page.now a.array.now Disable at_decide.ensures c.in-Disable.is
    refl refl

pub returns-in-Program : goal.returns-in-Program
returns-in-Program c =
    let at_decide = c.decide-act in
    let at_address = c.address-at in
    let at_program_page = c.program_page in
    let a = c.args in
    arm a.chip a.page.now a.array.now Program at_decide.ensures c.in-Program.is
    c.wrote.ensures
    (program_array a.chip.tx a.page.now a.array.now _ _ at_address.ensures at_program_page.ensures)

pub returns-in-Erase : goal.returns-in-Erase
returns-in-Erase c =
    let at_decide = c.decide-act in
    let at_address = c.address-at in
    let at_size_of = c.size_of-size in
    let at_erase_block = c.erase_block in
    let a = c.args in
    let b : Block = c.in-Erase.block in
    arm a.chip a.page.now a.array.now (Erase b) at_decide.ensures c.in-Erase.is
    c.wrote-in-Erase.ensures
    (erase_array b a.chip.tx a.page.now a.array.now _ _ _ at_address.ensures at_size_of.ensures
    at_erase_block.ensures)

pub returns-in-EraseAll : goal.returns-in-EraseAll
returns-in-EraseAll c =
    let at_decide = c.decide-act in
    let at_fill_lem = c.fill in
    let a = c.args in
    arm a.chip a.page.now a.array.now EraseAll at_decide.ensures c.in-EraseAll.is
    refl at_fill_lem.ensures
