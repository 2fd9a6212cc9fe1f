-- Files that are read one after another.
use Rattle.std.proofs.Common.{◌≡◌, List, ℕ, ◌+◌, ◌<◌, [], ◌∷◌, ◌++◌, length, take, drop, get_or, set, slice_get, Some, sym, ap, ◌∙◌, subst, string_bytes, arith}
use Rattle.std.proofs.lemmas.List.{drop_more, take_more, drop-set-lt, get_or-set_same, length-set}
use Rattle.std.proofs.lemmas.Option.{slice_get-get_or}
use Rattle.reply_text.specs.declared.ending.RunFault.{RunFault}
use Rattle.reply_text.specs.declared.ending.RunFault.TheVariants.{LineUnread, FileUnread, Unwritten, NoMemory, BookDiffers}
use Rattle.script_files.specs.Sources.{FileBook, AreRead, IsRead}
use Rattle.script_files.specs.Scripts.{IsReadingFault}
use Rattle.script_files.specs.Reading.{IsFileFault}

-- one file more was read
pub read_push : (files : List FileBook) (scripts : List (List ℕ)) (file : FileBook) (script : List ℕ) →
    AreRead files scripts → IsRead file script → AreRead (files ++ file ∷ []) (scripts ++ script ∷ [])
read_push [] [] file script all one = (one, tt)
read_push (f ∷ files) (s ∷ scripts) file script all one = (all.0, read_push files scripts file script all.1 one)
read_push [] (s ∷ scripts) file script all one = absurd all
read_push (f ∷ files) [] file script all one = absurd all

-- what is left at a place, where all from there on is as it was
module _ (files left : List FileBook) (place : ℕ) (d : FileBook) (low : place < length files)
    (long : length left ≡ length files) (same : drop place left ≡ drop place files) where
  both : get_or left place d ∷ drop (place + 1) left ≡ get_or files place d ∷ drop (place + 1) files
  both = sym (drop_more left place d (omega (arith, long))) ∙ same ∙ drop_more files place d low

  here : get_or left place d ≡ get_or files place d
  here = ap (λ (l : List FileBook). get_or l 0 d) both

  others : drop (place + 1) left ≡ drop (place + 1) files
  others = ap (drop 1) both

  -- one more of them was read
  pub read_here : (new : FileBook) (scripts : List (List ℕ)) (script : List ℕ) → AreRead (take place files) scripts →
      IsRead (get_or left place d) script →
      (drop (place + 1) (set left place new) ≡ drop (place + 1) files)
      × AreRead (take (place + 1) files) (scripts ++ script ∷ [])
  read_here new scripts script all one = (
    drop-set-lt (place + 1) left place new (omega arith) ∙ others,
    subst (λ (l : List FileBook). AreRead l (scripts ++ script ∷ [])) (sym (take_more files place d low))
        (read_push (take place files) scripts (get_or files place d) script all
        (subst (λ (file : FileBook). IsRead file script) here one)),
  )

-- the next one was not
unread_next : (files left : List FileBook) (scripts : List (List ℕ)) (place : ℕ) (file rest : FileBook)
    (fault : RunFault)
    → AreRead (take place files) scripts → slice_get files place ≡ Some file → slice_get left place ≡ Some rest →
    IsFileFault file rest fault → IsReadingFault files left fault
unread_next files left scripts place file rest (FileUnread name) read tried behind is = record {
  place = place;
  scripts = scripts;
  read = read;
  file = file;
  rest = rest;
  tried = tried;
  behind = behind;
  named = sym is.0;
  unreadable = is.1;
}
unread_next files left scripts place file rest NoMemory read tried behind is = tt
unread_next files left scripts place file rest (LineUnread line) read tried behind is = absurd is
unread_next files left scripts place file rest Unwritten read tried behind is = absurd is
unread_next files left scripts place file rest BookDiffers read tried behind is = absurd is

-- so it was not, where all from there on is as it was
pub unread_here : (files left : List FileBook) (place : ℕ) (d : FileBook) (low : place < length files)
    (long : length left ≡ length files) (same : drop place left ≡ drop place files)
    (new : FileBook) (scripts : List (List ℕ)) (fault : RunFault)
    → AreRead (take place files) scripts → IsFileFault (get_or left place d) new fault →
    IsReadingFault files (set left place new) fault
unread_here files left place d low long same new scripts fault all is =
    let within : place < length (set left place new) = omega (arith, long, length-set left place new) in
    unread_next files (set left place new) scripts place (get_or files place d) new fault all
    (slice_get-get_or files place d low)
    (slice_get-get_or (set left place new) place d within
    ∙ ap Some (get_or-set_same left place new d (omega (arith, long))))
    (subst (λ (file : FileBook). IsFileFault file new fault) (here files left place d low long same) is)
