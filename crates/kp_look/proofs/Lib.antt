mod Looks
