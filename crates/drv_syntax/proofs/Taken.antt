use Rattle.drv_syntax.proofs.Progress.{Has}
use Rattle.drv_syntax.specs.Code.Lists.{list_written, listed_given}
use Rattle.drv_syntax.specs.Code.Writing.{Reading, given, open_at, value_given}
use Rattle.drv_syntax.specs.Descent.{Ends, Read, Stops, Took, mapped, then_read, within}
use Rattle.drv_syntax.specs.Rest.{Left}
use Rattle.drv_syntax.specs.Tree.{Items}
use Rattle.drv_syntax.specs.declared.descent.simple.Tail.{Tail}
use Rattle.drv_syntax.specs.declared.fault.SyntaxFault.TheVariants.{Memory, Unclosed}
use Rattle.drv_syntax.specs.declared.fault.SyntaxFault.{SyntaxFault}
use Rattle.drv_words.specs.Gives.{Gives}
use Rattle.std.proofs.Common.{ap, inl, inr, refl, subst, sym, ℕ, ◌≡◌, ◌⊎◌}
use Rattle.std.specs.Prelude.{Err, Ok, Option, Result, Some}
use Rattle.std.specs.Result.{IsErrAnd}

-- From what the code gives of a part to what Descent makes of it: where the code goes on, the part was read (`taken`), and where it returns
-- a fault, the part has that fault (`Fails`). So each way through a function of src/descent/ follows the words of Descent. `given` turns
-- what Descent makes of a part into the code's result. `outer` is the place of the outermost directive that is open, if one is.
-- Names: `X`, `Y`: any type. `r`, `part`: what was read. `v`, `u`: what is left of the text, with the parts so far, before and after.
-- `end`: what is left after a part. `tail`: where a list ends. `then_read`: goes on with what was read and with what is left. `make`,
-- `made`: what the code makes of a part. `follow`: what it does after that.

-- a result and what follows it, unless it is a fault
abbrev pub then_ok : {X Y : Type 0} → Result X SyntaxFault → (X → Result Y SyntaxFault) → Result Y SyntaxFault
then_ok (Ok x) goes = goes x
then_ok (Err fault) goes = Err fault

-- the values of two equal results are equal
pub ok_same : {X : Type 0} {x y : X} → ◌≡◌ {A = Result X SyntaxFault} (Ok x) (Ok y) → x ≡ y
ok_same e = cc

-- what the code gives of two parts in a row, by what it gives of the first
pub given_then : {X Y Z W : Type 0} (outer : Option ℕ) (make : Y → Left → Z) (goes : X → Left → Read Y) (made : X → Left → W) (follow : W
    → Result Z SyntaxFault) (part : Read X) → ((value : X) (end : Left) → given outer make (goes value end) ≡ follow (made value end))
    → given outer make (then_read part goes) ≡ then_ok (given outer made part) follow
given_then outer make goes made follow (Took value end) e = e value end
given_then outer make goes made follow (Ends n) e = refl
given_then outer make goes made follow (Stops n fault) e = refl

-- what the code gives of two parts in a row, where the first has the property P if it is read
pub given_on : {X Y Z W : Type 0} (Holds : X → Left → Type 0) (outer : Option ℕ)
    (make : Y → Left → Z) (goes : X → Left → Read Y) (made : X → Left → W) (follow : W → Result Z SyntaxFault) (part : Read X)
    → Has Holds part → ((value : X) (end : Left) → Holds value end → given outer make (goes value end) ≡ follow (made value end))
    → given outer make (then_read part goes) ≡ then_ok (given outer made part) follow
given_on Holds outer make goes made follow (Took value end) p e = e value end p
given_on Holds outer make goes made follow (Ends n) p e = refl
given_on Holds outer make goes made follow (Stops n fault) p e = refl

-- what is written of a function of what was read
pub given_mapped : {X Y Z : Type 0} (outer : Option ℕ) (make : Y → Left → Z) (change : X → Y) (part : Read X)
    → given outer make (mapped change part) ≡ given outer (λ x rest. make (change x) rest) part
given_mapped outer make change (Took x rest) = refl
given_mapped outer make change (Ends at) = refl
given_mapped outer make change (Stops n fault) = refl

-- a part that was read, with what is left, of which the code made y
pub record Taken {X Y : Type 0} (f : X → Left → Y) (r : Read X) (y : Y) : Type 0 where
  pub part : X
  pub rest : Left
  pub is : r ≡ Took part rest
  pub on : f part rest ≡ y

-- where the code goes on after a part, the part was read
pub taken : {X Y : Type 0} (outer : Option ℕ) (make : X → Left → Y) (part : Read X) {y : Y}
    → given outer make part ≡ Ok y → Taken make part y
taken outer make (Took x rest) e = record { part = x; rest = rest; is = refl; on = ok_same e }
taken outer make (Ends n) e = absurd cc
taken outer make (Stops n fault) e = absurd cc

-- where the code goes on after a part of which it writes nothing, it has read the part's value
pub value_taken : {X : Type 0} (outer : Option ℕ) (v : Reading) (part : Read X) {x : X} {u : Reading}
    → value_given outer v part ≡ Ok (x, u) → (part ≡ Took x u.rest) × (v.parts ≡ u.parts)
value_taken outer v (Took x rest) e = (ap (λ y. Took y.0 y.1.rest) (ok_same e), ap (λ y. y.1.parts) (ok_same e))
value_taken outer v (Ends n) e = absurd cc
value_taken outer v (Stops n fault) e = absurd cc

-- a list that was read, after which the code has these parts
pub record Listed (v : Reading) (r : Read (Items × ℕ)) (u : Reading) : Type 0 where
  pub list : Items × ℕ
  pub is : r ≡ Took list u.rest
  pub parts_are : list_written list.0 v.parts ≡ u.parts

-- where the code goes on after a list, it has read the list
pub listed : (outer : Option ℕ) (tail : Tail) (v : Reading) (part : Read (Items × ℕ)) {last : Tail} {u : Reading}
    → listed_given outer tail v part ≡ Ok (last, u) → Listed v part u
listed outer tail v (Took list rest) e = record {
  list = list;
  is = ap (λ y. Took list y.1.rest) (ok_same e);
  parts_are = ap (λ y. y.1.parts) (ok_same e);
}
listed outer tail v (Ends n) e = absurd cc
listed outer tail v (Stops n fault) e = absurd cc

-- the part isn't read, and the code returns this fault of it
pub data Fails {X : Type 0} (outer : Option ℕ) (fault : SyntaxFault) : Read X → Type 0 where
  at_end : {n : ℕ} → Unclosed (open_at outer n) ≡ fault → Fails outer fault (Ends n)
  at_byte : {n : ℕ} {f : SyntaxFault} → f ≡ fault → Fails outer fault (Stops n f)

-- where the code returns a fault of a part, the part has that fault
pub fails : {X Y : Type 0} (outer : Option ℕ) (make : X → Left → Y) (part : Read X) {fault : SyntaxFault}
    → given outer make part ≡ Err fault → Fails outer fault part
fails outer make (Took x rest) e = absurd cc
fails outer make (Ends n) e = at_end cc
fails outer make (Stops n g) e = at_byte cc

-- of a part with a fault the code returns that fault
pub given_fails : {X Y : Type 0} (outer : Option ℕ) (make : X → Left → Y) {part : Read X} {fault : SyntaxFault}
    → Fails outer fault part → given outer make part ≡ Err fault
given_fails outer make (at_end e) = ap (λ e. Err e) e
given_fails outer make (at_byte e) = ap (λ e. Err e) e

-- two parts in a row have the fault of the first
pub fails_then : {X Y : Type 0} {outer : Option ℕ} {fault : SyntaxFault} {part : Read X} (goes : X → Left → Read Y)
    → Fails outer fault part → Fails outer fault (then_read part goes)
fails_then goes (at_end e) = at_end e
fails_then goes (at_byte e) = at_byte e

-- where a text ends in a part, the outermost directive is what isn't closed
pub fails_within : {X : Type 0} {outer : Option ℕ} {fault : SyntaxFault} (at : ℕ) {part : Read X}
    → Fails (Some (open_at outer at)) fault part → Fails outer fault (within at part)
fails_within at (at_end e) = at_end e
fails_within at (at_byte e) = at_byte e

-- what a call returned, as what its caller returns

-- code that returns what a call returned meets its clause, if by the definition what the call gives is what the code gives
pub gives_same : {X Y : Type 0} (view : X → Y) (result : Result X SyntaxFault) {a b : Result Y SyntaxFault} → a ≡ b
    → Gives Memory view result b → Gives Memory view result a
gives_same view result e h = subst (λ x. Gives Memory view result x) (sym e) h

-- code that passes on the fault of a part meets its clause, if by the definition this fault of the part is that of the whole
pub gives_err : {X Y Z : Type 0} {fault : SyntaxFault} (view : X → Y) (result : Result X SyntaxFault) {part : Result Z SyntaxFault}
    {whole : Result Y SyntaxFault} → IsErrAnd result (λ e. e ≡ fault) → (fault ≡ Memory) ⊎ (part ≡ Err fault)
    → (part ≡ Err fault → whole ≡ Err fault) → Gives Memory view result whole
gives_err view (Ok x) e h on = absurd e
gives_err view (Err f) e (inl g) on = inl (rw e g)
gives_err view (Err f) e (inr g) on = inr (rw e (on g))

-- code that returns the fault that its definition gives meets its clause
pub err_gives : {X Y : Type 0} {fault : SyntaxFault} (view : X → Y) (result : Result X SyntaxFault) {whole : Result Y SyntaxFault}
    → IsErrAnd result (λ e. e ≡ fault) → whole ≡ Err fault → Gives Memory view result whole
err_gives view (Ok x) e h = absurd e
err_gives view (Err f) e h = inr (rw e h)

-- code that passes on the fault of a part meets its clause, if by the definition the part is read first
pub err_then : {Returned V W X Y : Type 0} {fault : SyntaxFault} (view : Returned → V) (result : Result Returned SyntaxFault)
    (outer : Option ℕ) (make : X → Left → W) (make_all : Y → Left → V) (part : Read X) (goes : X → Left → Read Y)
    → IsErrAnd result (λ e. e ≡ fault)
    → (fault ≡ Memory) ⊎ (given outer make part ≡ Err fault) → Gives Memory view result (given outer make_all (then_read part goes))
err_then {W = W} {X = X} {Y = Y} {fault = fault} view result outer make make_all part goes e h = gives_err view result e h (by part)
  where
    by : (part : Read X) → given outer make part ≡ Err fault → given outer make_all (then_read part goes) ≡ Err fault
    by (Took x rest) e = absurd cc
    by (Ends at) e = cc
    by (Stops n fault) e = cc
