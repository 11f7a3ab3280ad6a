mod FreshWords
