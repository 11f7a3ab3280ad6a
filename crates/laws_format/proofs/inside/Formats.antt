-- The laws of the pack that formatting writes.
use Rattle.laws_format.specs.Formatted.{FormattedDescriptorFits, FormattedLeadersAreHandy, FormattedPackBeginsASession, FormattedPackHasFreeSectors, FormattedPackIsEmpty, FormattedPackShowsNothing}
use Rattle.laws_format.proofs.inside.Counting.{free_after_used}
use Rattle.laws_format.proofs.inside.Describing.{describes_it, leaders_are_handy, session_begins}
use Rattle.laws_format.proofs.inside.Showing.{shows_nothing}
use Rattle.laws_format.proofs.inside.Wholeness.{reads_empty}

pub formatted_pack_begins_a_session : FormattedPackBeginsASession
formatted_pack_begins_a_session = session_begins

pub formatted_pack_is_empty : FormattedPackIsEmpty
formatted_pack_is_empty shape number moment = reads_empty shape moment number

pub formatted_pack_shows_nothing : FormattedPackShowsNothing
formatted_pack_shows_nothing shape number moment = shows_nothing shape moment number

pub formatted_pack_has_free_sectors : FormattedPackHasFreeSectors
formatted_pack_has_free_sectors = free_after_used

pub formatted_descriptor_fits : FormattedDescriptorFits
formatted_descriptor_fits = describes_it

pub formatted_leaders_are_handy : FormattedLeadersAreHandy
formatted_leaders_are_handy = leaders_are_handy
