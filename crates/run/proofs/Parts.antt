-- A list in two parts: the second goes on from what the first leaves. Rests on specs/List.
use mathlib.Core.List.{List, [], ◌∷◌, ◌++◌, append_assoc}
use mathlib.Core.Path.{◌≡◌, refl, sym, ap, ◌∙◌}
use Prim.Native.Nat.{ℕ}
use Rattle.flow.specs.Plan.{Plan}
use Rattle.book.specs.Book.{Book}
use Rattle.book.specs.Feed.{Call, feed, run_from}
use Rattle.run.specs.Calls.{Item, on_memory, memory_after}
use Rattle.run.specs.List.{role_in, IsList, fed_as, fed}

-- each part is a list
pub list_parts : (memory : List ℕ) (is more : List Item) → IsList memory (is ++ more) → IsList memory is × IsList (memory_after memory is) more
list_parts memory [] more l = (tt, l)
list_parts memory (i ∷ is) more l = let rest = list_parts (on_memory memory i).memory.state is more l.1 in ((l.0, rest.0), rest.1)

fed_parts : (p : Plan) (is more : List Item) → fed p (is ++ more) ≡ fed p is ++ fed p more
fed_parts p [] more = refl
fed_parts p (i ∷ is) more =
    ap (λ cs. fed_as (role_in p i) ++ cs) (fed_parts p is more) ∙ sym (append_assoc (fed_as (role_in p i)) (fed p is) (fed p more))

pub run_parts : (p : Plan) (b : Book) (cs ds : List Call) → (run_from p b (cs ++ ds)).book ≡ (run_from p (run_from p b cs).book ds).book
run_parts p b [] ds = refl
run_parts p b (c ∷ cs) ds = run_parts p (feed p b c).book cs ds

-- the book after both
pub book_parts : (p : Plan) (b : Book) (is more : List Item)
    → (run_from p b (fed p (is ++ more))).book ≡ (run_from p (run_from p b (fed p is)).book (fed p more)).book
book_parts p b is more = ap (λ cs. (run_from p b cs).book) (fed_parts p is more) ∙ run_parts p b (fed p is) (fed p more)
