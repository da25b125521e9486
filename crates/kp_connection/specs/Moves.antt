-- Reads and writes of one stream, in any order, as far as tokio's traits tell them.
use Rattle.std.specs.Prelude.{◌≡◌, ℕ, List, [], ◌∷◌, ◌++◌, take, Result, Ok, Err, refl}
use Rattle.std.specs.List.{flat_map}
use Rattle.std.proofs.Common.{subst, sym, ap, ◌∙◌, append_assoc, append-nil}
use Rattle.std.specs.declared.io.Error.{Error}
use Rattle.futures.specs.declared.task.Poll.{Poll}
use Rattle.futures.specs.declared.task.Poll.TheVariants.{Ready, Pending}
use Rattle.tokio.specs.Io.Moved.{Passes, bytes_moved}
use Rattle.kp_connection.specs.Answers.{Answer, came, gone, came_by, gone_by, read_answer, write_answer}

-- calls that began at first read these bytes and wrote those, and left the last state
pub data Moves {I : Type 0} (reads writes : Passes I) (first : I) : List ℕ → List ℕ → I → Type 0 where
  untouched : Moves reads writes first [] [] first
  was_read : (into out more : List ℕ) (a b : I) → Moves reads writes first into out a → reads a more b → Moves reads writes first (into ++ more) out b
  was_written : (into out more : List ℕ) (a b : I) → Moves reads writes first into out a → writes a more b → Moves reads writes first into (out ++ more) b

flat_map-append : {X A : Type 0} (f : X → List A) (xs ys : List X) → flat_map f (xs ++ ys) ≡ flat_map f xs ++ flat_map f ys
flat_map-append f [] ys = refl
flat_map-append f (x ∷ xs) ys = ap (λ zs. f x ++ zs) (flat_map-append f xs ys) ∙ sym (append_assoc (f x) (flat_map f xs) (flat_map f ys))

moves_then : {I : Type 0} (reads writes : Passes I) (a b c : I) (i o j p : List ℕ) → Moves reads writes a i o b → Moves reads writes b j p c → Moves reads writes a (i ++ j) (o ++ p) c
moves_then reads writes a b c i o j p first Moves.untouched =
    subst (λ (xs : List ℕ). Moves reads writes a xs (o ++ []) b) (sym (append-nil i)) (subst (λ (xs : List ℕ). Moves reads writes a i xs b) (sym (append-nil o)) first)
moves_then reads writes a b c i o j p first (Moves.was_read into out more d e before step) =
    subst (λ (xs : List ℕ). Moves reads writes a xs (o ++ out) e) (append_assoc i into more) (Moves.was_read (i ++ into) (o ++ out) more d e (moves_then reads writes a b d i o into out first before) step)
moves_then reads writes a b c i o j p first (Moves.was_written into out more d e before step) =
    subst (λ (xs : List ℕ). Moves reads writes a (i ++ into) xs e) (append_assoc o out more) (Moves.was_written (i ++ into) (o ++ out) more d e (moves_then reads writes a b d i o into out first before) step)

pub moves_in_order : {I : Type 0} (reads writes : Passes I) (a b c : I) (xs ys : List Answer) → Moves reads writes a (came xs) (gone xs) b → Moves reads writes b (came ys) (gone ys) c → Moves reads writes a (came (xs ++ ys)) (gone (xs ++ ys)) c
moves_in_order reads writes a b c xs ys p q =
    rw (flat_map-append came_by xs ys, flat_map-append gone_by xs ys) (moves_then reads writes a b c (came xs) (gone xs) (came ys) (gone ys) p q)

pub moves_of_read : {I : Type 0} (reads writes : Passes I) (a b : I) (polled : Poll (Result ℕ Error)) (buf : List ℕ) → reads a (bytes_moved polled buf) b → Moves reads writes a (came (read_answer polled buf ∷ [])) (gone (read_answer polled buf ∷ [])) b
moves_of_read reads writes a b (Ready (Ok n)) buf h = subst (λ (xs : List ℕ). Moves reads writes a xs [] b) (sym (append-nil (take n buf))) (Moves.was_read [] [] (take n buf) a b Moves.untouched h)
moves_of_read reads writes a b (Ready (Err e)) buf h = Moves.was_read [] [] [] a b Moves.untouched h
moves_of_read reads writes a b Pending buf h = Moves.was_read [] [] [] a b Moves.untouched h

pub moves_of_write : {I : Type 0} (reads writes : Passes I) (a b : I) (polled : Poll (Result ℕ Error)) (buf : List ℕ) → writes a (bytes_moved polled buf) b → Moves reads writes a (came (write_answer polled buf ∷ [])) (gone (write_answer polled buf ∷ [])) b
moves_of_write reads writes a b (Ready (Ok n)) buf h = subst (λ (xs : List ℕ). Moves reads writes a [] xs b) (sym (append-nil (take n buf))) (Moves.was_written [] [] (take n buf) a b Moves.untouched h)
moves_of_write reads writes a b (Ready (Err e)) buf h = Moves.was_written [] [] [] a b Moves.untouched h
moves_of_write reads writes a b Pending buf h = Moves.was_written [] [] [] a b Moves.untouched h
