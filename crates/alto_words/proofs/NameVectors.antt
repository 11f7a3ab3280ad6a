-- Small cases of names.
use Rattle.std.proofs.Common.{◌≡◌, true, false, codes, Some, None, Less, Equal, Greater, refl}
use Rattle.std.specs.Fmt.{digits}
use Rattle.alto_words.specs.declared.wanted.Wanted.TheVariants.{Exact, Newest}
use Rattle.alto_words.specs.Names.{is_stored_name, name_in, bare_in, with_version, folded_cmp, base_of, version_of, suffixed}
use Rattle.alto_words.specs.Wanted.{wanted_in, base_wanted}

stored :
    (is_stored_name (codes "A.") ≡ true)
    × (is_stored_name (codes "A!2.") ≡ true)
    × (is_stored_name (codes "A!65534.") ≡ true)
    × (is_stored_name (codes "A!65535.") ≡ false)
    × (is_stored_name (codes "A!1.") ≡ false)
    × (is_stored_name (codes "A!02.") ≡ false)
    × (is_stored_name (codes "A!.") ≡ false)
    × (is_stored_name (codes "!2.") ≡ false)
    × (is_stored_name (codes "A!2!3.") ≡ false)
    × (is_stored_name (codes "A!2") ≡ false)
    × (is_stored_name (codes "A!2..") ≡ false)
    × (is_stored_name (codes "A.!2.") ≡ true)
    × (is_stored_name (codes ".!2.") ≡ true)
    × (is_stored_name (codes "DiskDescriptor.") ≡ true)
    × (is_stored_name (codes "aaaaaaaaaaaaaaaaaaaaaaaaaaaaaaaaaaaa!2.") ≡ true)
    × (is_stored_name (codes "aaaaaaaaaaaaaaaaaaaaaaaaaaaaaaaaaaaaa!2.") ≡ false)
unfolding is_stored_name digits
stored = (refl, refl, refl, refl, refl, refl, refl, refl, refl, refl, refl, refl, refl, refl, refl, refl)

parsed :
    (name_in (codes "A!1") ≡ Some (codes "A."))
    × (name_in (codes "A.!2.") ≡ Some (codes "A!2."))
    × (name_in (codes "A..!2") ≡ Some (codes "A.!2."))
    × (name_in (codes "A!0") ≡ None)
    × (name_in (codes "A!02") ≡ None)
    × (name_in (codes "A!2..") ≡ None)
    × (name_in (codes "!2") ≡ None)
    × (name_in (codes ".!2") ≡ None)
    × (name_in (codes "A") ≡ Some (codes "A."))
    × (name_in (codes "A!65535") ≡ None)
    × (name_in (codes "A!2!3") ≡ None)
    × (name_in (codes "A!") ≡ None)
unfolding is_stored_name digits
parsed = (refl, refl, refl, refl, refl, refl, refl, refl, refl, refl, refl, refl)

ordered :
    (folded_cmp (codes "A!10.") (codes "a!2.") ≡ Greater)
    × (folded_cmp (codes "A.") (codes "a!2.") ≡ Less)
    × (folded_cmp (codes "A!10.") (codes "A.B.") ≡ Less)
    × (folded_cmp (codes "A!2.") (codes "a!2.") ≡ Equal)
    × (suffixed (codes "X!2.") 1 ≡ codes "X.$1!2.")
    × (base_of (codes "X!2.") ≡ codes "X.")
    × (version_of (codes "X!2.") ≡ 2)
unfolding suffixed digits
ordered = (refl, refl, refl, refl, refl, refl, refl)

wanted :
    (wanted_in (codes "A") ≡ Some (Newest (codes "A.")))
    × (wanted_in (codes "A!1") ≡ Some (Exact (codes "A.")))
    × (wanted_in (codes "A.!2.") ≡ Some (Exact (codes "A!2.")))
    × (wanted_in (codes "A!0") ≡ None)
    × (base_wanted (Exact (codes "A!2.")) ≡ codes "A.")
    × (bare_in (codes "A!1") ≡ None)
    × (with_version (codes "A.") 1 ≡ Some (codes "A."))
    × (with_version (codes "A.") 10 ≡ Some (codes "A!10."))
    × (with_version (codes "aaaaaaaaaaaaaaaaaaaaaaaaaaaaaaaaaaaaa.") 2 ≡ None)
unfolding is_stored_name digits
wanted = (refl, refl, refl, refl, refl, refl, refl, refl, refl)
